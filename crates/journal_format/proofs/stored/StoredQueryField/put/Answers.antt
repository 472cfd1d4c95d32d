use Rattle.journal_format.proofs.stored.StoredQueryField.put.Goals as goal

pub returns-clause-writable : goal.returns-clause-writable
returns-clause-writable c = record {
  id = c.put.ensures.writable;
  title = c.put-2.ensures.writable;
  parameters = rw c.items.ensures at c.put_counted.ensures.writable;
  text = c.put-3.ensures.writable;
}
