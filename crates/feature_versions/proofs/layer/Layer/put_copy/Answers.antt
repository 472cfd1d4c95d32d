use Rattle.feature_versions.proofs.Copying.{copied_last}
use Rattle.feature_versions.proofs.layer.Layer.put_copy.Goals as goal

pub returns-in_ok-copy-clause-features : goal.returns-in_ok-copy-clause-features
returns-in_ok-copy-clause-features c =
    copied_last c.args.self.now.kind c.args.row.now c.args.self.now.features c.put.new.self.features c.in_ok-copy.field-0 c.in-Some.feature c.in-Some.is c.in_ok-copy.ensures c.requires.own c.requires.last c.put.ensures.features
