-- How a history grows, message after message.
use Rattle.std.proofs.Common.{◌≡◌, ℕ, ◌≤◌, List, [], ◌∷◌, ◌++◌, refl, sym, ap, ◌∙◌, arith, append-nil, append_assoc}
use Rattle.std.proofs.lemmas.List.Elements.{All-nil, All-cons, All-append}
use Rattle.std.proofs.lemmas.List.Sums.{fold-append}
use Rattle.feature_values.specs.declared.schema.Schema.{Schema}
use Rattle.http_session.specs.declared.message.Message.{Message}
use Rattle.wfs_model.specs.declared.entry.Entry.{Entry}
use Rattle.wfs_model.specs.declared.request.Request.{Request}
use Rattle.wfs_model.specs.Changing.{IsChange}
use Rattle.wfs_model.specs.OfSchema.{IsOfSchema}
use Rattle.wfs_model.specs.State.{State}
use Rattle.wfs_model.specs.History.{stepped, after_all, IsLegal}
use Rattle.http_requests.specs.Verdicts.{Served, state_of, with_entry, next_entry, IsEntryOf, Grows, HasLegalHistory, HasEntriesOf}

-- ---- legal histories

-- legal entries, and others that are legal behind them
pub legal_both : (schema : Schema) (state : State) (before more : List Entry) → IsLegal schema state before → IsLegal schema (after_all schema state before) more → IsLegal schema state (before ++ more)
legal_both schema state [] more a b = b
legal_both schema state (entry ∷ before) more a b = (a.0, a.1, legal_both schema (stepped schema state entry) before more a.2 b)

-- ---- growth

pub grows_none : (seat : ℕ) (served : Served) → Grows seat served served
grows_none seat served = record {
  schema = refl;
  opening = refl;
  more = [];
  entries = sym (append-nil served.entries);
  legal = tt;
  own = All-nil (IsEntryOf seat served.schema);
}

state_behind : (seat : ℕ) (a b : Served) (g : Grows seat a b) → state_of b ≡ after_all a.schema (state_of a) g.more
state_behind seat a b g = rw (g.schema, g.opening, g.entries) (fold-append (stepped a.schema) a.opening a.entries g.more)

pub grows_both : (seat : ℕ) (a b c : Served) → Grows seat a b → Grows seat b c → Grows seat a c
grows_both seat a b c g h = record {
  schema = h.schema ∙ g.schema;
  opening = h.opening ∙ g.opening;
  more = g.more ++ h.more;
  entries = h.entries ∙ ap (λ (l : List Entry). l ++ h.more) g.entries ∙ append_assoc a.entries g.more h.more;
  legal = legal_both a.schema (state_of a) g.more h.more g.legal (rw (state_behind seat a b g, g.schema) at h.legal);
  own = All-append (IsEntryOf seat a.schema) g.more h.more g.own (rw g.schema at h.own);
}

-- an entry that is taken up
pub grows_entry : (seat : ℕ) (served : Served) (m : Message) (moment : ℕ) (request : Request) → IsChange request → IsOfSchema served.schema request → Grows seat served (with_entry served (next_entry served seat request m moment))
grows_entry seat served m moment request change fitting =
    let entry = next_entry served seat request m moment in
    let later : (state_of served).last ≤ entry.moment = omega arith in
    record {
      schema = refl;
      opening = refl;
      more = entry ∷ [];
      entries = refl;
      legal = (change, later, tt);
      own = All-cons (IsEntryOf seat served.schema) entry [] (record { own = refl; fitting = fitting }) (All-nil (IsEntryOf seat served.schema));
    }

-- what holds of a whole history still holds of it when it has grown
pub legal_still : (seat : ℕ) (a b : Served) → HasLegalHistory a → Grows seat a b → HasLegalHistory b
legal_still seat a b h g = rw (g.schema, g.opening, g.entries) (legal_both a.schema a.opening a.entries g.more h g.legal)

pub own_still : (seat : ℕ) (a b : Served) → HasEntriesOf seat a → Grows seat a b → HasEntriesOf seat b
own_still seat a b h g = rw (g.schema, g.entries) (All-append (IsEntryOf seat a.schema) a.entries g.more h g.own)
