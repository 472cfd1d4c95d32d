use Rattle.std.proofs.Common.{rules, ◌≡◌, ◌∷◌, [], ◌++◌, IfSome, subst, sym}
use Rattle.std.proofs.lemmas.List.Elements.{All-push}
use Rattle.snapshot_reads.specs.Pairs.{schema_in}
use Rattle.snapshot_reads.specs.Viewers.{AreNew, IsNew}
use Rattle.snapshot_reads.proofs.publisher.publishing.push_viewer.Goals as goal

pub returns-clause-all : goal.returns-clause-all
returns-clause-all c = let book = c.args.seen.now.book in let schema = schema_in c.args.seen.now.log in
    let more : c.push.new.self.items ≡ c.args.viewers.now.items ++ c.make_viewer-viewer.result ∷ [] = search rules in
    subst (AreNew book schema) (sym more) (All-push (λ v. IfSome v (IsNew book schema)) c.args.viewers.now.items c.make_viewer-viewer.result c.requires.all (search rules))
