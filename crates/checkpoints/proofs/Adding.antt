-- The records of a source go to the side in the making, one after the other.
use Rattle.std.proofs.Common.{◌≡◌, ◌≤◌, ◌<◌, inl, ℕ, ◌+◌, List, [], ◌∷◌, ◌++◌, length, refl, sym, ◌∙◌, ap, arith, append_assoc, length-append, Option}
use Rattle.std.proofs.lemmas.List.{append-nil}
use Rattle.std.specs.List.{flat_map}
use Rattle.disk_core.specs.Sides.{Within, Always}
use Rattle.disk_core.specs.Sides.Always.{once}
use Rattle.disk_core.specs.declared.pair.Pair.{Pair}
use Rattle.feature_journal.specs.Side.{side, opened}
use Rattle.feature_journal.specs.Whole.{Says}
use Rattle.feature_journal.specs.Kept.{seen, Rests, Makes, SameSide, disks_of, limit_of, made_length_of}
use Rattle.feature_journal.specs.Faults.{NoneFell}
use Rattle.feature_journal.specs.declared.journal.Journal.{Journal}
use Rattle.feature_journal.proofs.Pairs.{held_says, within_still, length-framed}
use Rattle.feature_journal.proofs.Knowing.{says_more, within_more, always_more, always_on}
use Rattle.feature_journal.proofs.Recovered.{side_size}
use Rattle.feature_journal.specs.declared.fault.AppendFault.{AppendFault}
use Rattle.feature_journal.specs.declared.fault.AppendFault.TheVariants as append_faults
use Rattle.checkpoints.specs.declared.fault.CompactFault.TheVariants as faults
use Rattle.checkpoints.specs.Source.{fault_from}
use Rattle.checkpoints.specs.Length.{side_length, Passes}

length_behind : (bodies : List (List ℕ)) → side_length bodies ≡ 17 + length (flat_map opened bodies)
unfolding side_length
length_behind [] = refl
length_behind (body ∷ bodies) = omega (arith, length_behind bodies, length-append (opened body) (flat_map opened bodies), length-framed body)

-- the length of a side is that of its bytes up to its ending gate, and one more
pub length_is : (generation : ℕ) (bodies : List (List ℕ)) → side_length bodies ≡ length (side generation bodies) + 1
length_is generation bodies = omega (arith, length_behind bodies, side_size generation bodies)

pub length_push : (bodies : List (List ℕ)) (body : List ℕ) → side_length (bodies ++ body ∷ []) ≡ side_length bodies + 5 + length body
unfolding side_length
length_push [] body = omega arith
length_push (first ∷ bodies) body = omega (arith, length_push bodies body)

-- From the start to now these records were added, and these are left.
pub record Adding {D : Type 0} (shown : D → Option (List ℕ)) (moment : D → ℕ) (since : D → ℕ → List ℕ → Type 0) (images : D → List ℕ → Type 0) (faults : D → ℕ) (start now : Journal D) (all left : List (List ℕ)) : Type 0 where
  pub added : List (List ℕ)
  pub split : all ≡ added ++ left
  pub makes : (bodies : List (List ℕ)) → Makes shown images bodies [] (seen start) → Makes shown images bodies added (seen now)
  pub goes : (bodies : List (List ℕ)) → Makes shown images bodies [] (seen start) → Always moment since (Says (bodies ∷ [])) (disks_of start) (disks_of now)
  pub same : SameSide start now
  pub count : NoneFell faults (disks_of start) (disks_of now)

module _ {D : Type 0} (shown : D → Option (List ℕ)) (moment : D → ℕ) (since : D → ℕ → List ℕ → Type 0) (images : D → List ℕ → Type 0) (faults : D → ℕ) where
  -- how long the side in the making is
  pub made_is : (bodies added : List (List ℕ)) (now : Journal D) → Makes shown images bodies added (seen now) → made_length_of now ≡ side_length added
  made_is bodies added now m = omega (arith, m.making.size, length_is (now.generation + 1) added)

  pub none_added : (counts : (d : D) (t : ℕ) (c : List ℕ) → t ≤ moment d → images d c → since d t c) (only : (d : D) (c : List ℕ) → since d (moment d) c → images d c) (start : Journal D) (all : List (List ℕ)) → Adding shown moment since images faults start start all all
  none_added counts only start all = record {
    added = [];
    split = refl;
    makes = λ bodies m. m;
    goes = λ bodies m. once _ _ (within_still moment since images counts only (Says (bodies ∷ [])) (disks_of start) (held_says images start.second_side _ _ bodies start.disks m.rests.held));
    same = record { second = refl; generation = refl; length = refl; limit = refl };
    count = (omega arith, omega arith);
  }

  pub one_added : (start now new : Journal D) (all left : List (List ℕ)) (body : List ℕ) (rest : List (List ℕ)) → Adding shown moment since images faults start now all left → left ≡ body ∷ rest
      → ((bodies added : List (List ℕ)) → Makes shown images bodies added (seen now) → Within moment since (Says (bodies ∷ [])) (disks_of now) (disks_of new))
      → ((bodies added : List (List ℕ)) → Makes shown images bodies added (seen now) → Makes shown images bodies (added ++ body ∷ []) (seen new))
      → SameSide now new → NoneFell faults (disks_of now) (disks_of new) → Adding shown moment since images faults start new all rest
  one_added start now new all left body rest a is goes makes same count = record {
    added = a.added ++ body ∷ [];
    split = a.split ∙ ap (λ (l : List (List ℕ)). a.added ++ l) is ∙ sym (append_assoc a.added (body ∷ []) rest);
    makes = λ bodies m. makes bodies a.added (a.makes bodies m);
    goes = λ bodies m. always_on moment since (Says (bodies ∷ [])) (disks_of start) (disks_of now) (disks_of new) (a.goes bodies m) (once _ _ (goes bodies a.added (a.makes bodies m)));
    same = same_on start now new a.same same;
    count = (omega (arith, a.count.0, count.0), omega (arith, a.count.1, count.1));
  }
    where
      same_on : (x y z : Journal D) → SameSide x y → SameSide y z → SameSide x z
      same_on x y z s t = record { second = t.second ∙ s.second; generation = t.generation ∙ s.generation; length = t.length ∙ s.length; limit = t.limit ∙ s.limit }

  -- what is known where a record is not added, and where none is left
  pub passes : (start now : Journal D) (all left : List (List ℕ)) (body : List ℕ) (rest : List (List ℕ)) (sum : ℕ) (bodies : List (List ℕ)) → Adding shown moment since images faults start now all left → Makes shown images bodies [] (seen start) → left ≡ body ∷ rest
      → sum ≡ made_length_of now + 5 + length body → limit_of now < sum → Passes (limit_of start) sum all
  passes start now all left body rest sum bodies a m is sum_is over =
      let made = made_is bodies a.added now (a.makes bodies m) in
      record {
        front = a.added;
        body = body;
        rest = rest;
        is = a.split ∙ ap (λ (l : List (List ℕ)). a.added ++ l) is;
        within = omega (arith, made, (a.makes bodies m).room, a.same.limit);
        sum_is = omega (arith, sum_is, made, length_push a.added body);
        over = omega (arith, over, a.same.limit);
      }

  pub all_fit : (start now : Journal D) (all left bodies : List (List ℕ)) → Adding shown moment since images faults start now all left → Makes shown images bodies [] (seen start) → left ≡ [] → side_length all ≤ limit_of start
  all_fit start now all left bodies a m none =
      let made = made_is bodies a.added now (a.makes bodies m) in
      let same : all ≡ a.added = a.split ∙ ap (λ (l : List (List ℕ)). a.added ++ l) none ∙ append-nil a.added in
      omega (arith, made, ap side_length same, (a.makes bodies m).room, a.same.limit)

pub full_from : (fault : AppendFault) (sum : ℕ) → fault_from fault ≡ faults.Full sum → fault ≡ append_faults.Full sum
full_from append_faults.DiskFault sum is = absurd (cc)
full_from (append_faults.Full n) sum is = let same : n ≡ sum = cc in ap append_faults.Full same

-- the phases of a checkpoint, where the records may be there at last
module _ {D : Type 0} (moment : D → ℕ) (since : D → ℕ → List ℕ → Type 0) (images : D → List ℕ → Type 0) (bodies added : List (List ℕ)) where
  wider : (x y : List ℕ) → Says (bodies ∷ []) x y → Says (bodies ∷ added ∷ []) x y
  wider x y says = says_more (bodies ∷ added ∷ []) bodies x y (inl refl) says

  -- nothing is written
  pub alone_still : (counts : (d : D) (t : ℕ) (c : List ℕ) → t ≤ moment d → images d c → since d t c) (only : (d : D) (c : List ℕ) → since d (moment d) c → images d c) (journal : Journal D) → Rests images bodies (seen journal) → Always moment since (Says (bodies ∷ [])) (disks_of journal) (disks_of journal)
  alone_still counts only journal rests =
      once _ _ (within_still moment since images counts only (Says (bodies ∷ [])) (disks_of journal) (held_says images journal.second_side _ _ bodies journal.disks rests.held))

  pub rest_goes : (counts : (d : D) (t : ℕ) (c : List ℕ) → t ≤ moment d → images d c → since d t c) (only : (d : D) (c : List ℕ) → since d (moment d) c → images d c) (journal : Journal D) → Rests images bodies (seen journal) → Always moment since (Says (bodies ∷ added ∷ [])) (disks_of journal) (disks_of journal)
  rest_goes counts only journal rests = always_more moment since (Says (bodies ∷ [])) (Says (bodies ∷ added ∷ [])) (disks_of journal) (disks_of journal) wider (alone_still counts only journal rests)

  pub begun_goes : (old mid : Pair D) → Within moment since (Says (bodies ∷ [])) old mid → Always moment since (Says (bodies ∷ added ∷ [])) old mid
  begun_goes old mid first = once _ _ (within_more moment since (Says (bodies ∷ [])) (Says (bodies ∷ added ∷ [])) old mid wider first)

  pub added_goes : (old mid new : Pair D) → Within moment since (Says (bodies ∷ [])) old mid → Always moment since (Says (bodies ∷ [])) mid new → Always moment since (Says (bodies ∷ added ∷ [])) old new
  added_goes old mid new first more =
      always_on moment since (Says (bodies ∷ added ∷ [])) old mid new (begun_goes old mid first) (always_more moment since (Says (bodies ∷ [])) (Says (bodies ∷ added ∷ [])) mid new wider more)

  pub finished_goes : (old mid made new : Pair D) → Within moment since (Says (bodies ∷ [])) old mid → Always moment since (Says (bodies ∷ [])) mid made → Within moment since (Says (bodies ∷ added ∷ [])) made new → Always moment since (Says (bodies ∷ added ∷ [])) old new
  finished_goes old mid made new first more last = always_on moment since (Says (bodies ∷ added ∷ [])) old made new (added_goes old mid made first more) (once _ _ last)
