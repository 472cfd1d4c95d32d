use Rattle.std.proofs.Common.{rules}
use Rattle.session_workers.proofs.Links.{first_handed}
use Rattle.session_workers.proofs.visit.serve_next.Goals as goal

pub returns-in-Ok-Some : goal.returns-in-Ok-Some
returns-in-Ok-Some g c = record {
  visit = record { before = g.A.Link.Source.source c.in-Ok-Some.link; end = c.visit-ended.result; after = g.A.Link.Source.source c.visit-ended.new.link };
  visited = c.visit-ended.ensures;
  out = g.A.Acceptor.accepting c.accept.new.self;
  handed = first_handed g.A.Link.Source.source _ _ c.in-Ok-Some.field-0 c.in-Ok-Some.link (first_of (search rules, cc)) c.in-Ok-Some.ensures.first;
  finished = search rules;
}
