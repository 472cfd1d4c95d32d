use Rattle.std.proofs.Common.{inl, inr}
use Rattle.feature_journal.proofs.Recovered.{says_recovered, unmade_recovered}
use Rattle.feature_journal.proofs.laws.recovers_whole_images.Goals as goal

pub returns : goal.returns
returns c a b (inl unmade) second place refused = let none = unmade_recovered a b unmade.0 unmade.1 in absurd (cc (none, refused))
returns c a b (inr says) second place refused = let there = says_recovered _ a b says.1 in absurd (cc (there, refused))
