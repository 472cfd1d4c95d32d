-- What follows from what is known.
use Rattle.std.proofs.Common.{◌≡◌, inl, inr, ℕ, List, [], ◌∷◌, Bool, true, false, not, refl, sym, subst, cond}
use Rattle.disk_core.specs.Disk.{Every}
use Rattle.disk_core.specs.Sides.{chosen, spare, Within, Always}
use Rattle.disk_core.specs.Sides.Always.{once, then as link}
use Rattle.disk_core.specs.declared.pair.Pair.{Pair}
use Rattle.feature_journal.specs.Side.{side, Closed}
use Rattle.feature_journal.specs.Whole.{OneOf, Ends, Idle, Harmless, Says}
use Rattle.feature_journal.specs.Whole.Ends.{closed, tail}
use Rattle.feature_journal.specs.Whole.Harmless.{short, shut, older, tied, equal}
use Rattle.feature_journal.specs.Held.{HeldClosed, HeldBegun, With}
use Rattle.feature_journal.specs.Settled.{Reading, Known, TailOf, SaysOr}
use Rattle.feature_journal.proofs.Whole.{idle_harmless, harmless_any}

module _ {D : Type 0} (images : D → List ℕ → Type 0) (second : Bool) (gate : ℕ) where
  pub known_ends : (is_stale is_closed : Bool) (r : Reading) (disks : Pair D) → Known images second gate is_stale is_closed r disks → Every (images (chosen second disks)) (Ends (side r.generation r.bodies))
  known_ends is_stale true r disks k c here = closed (k.closed refl c here)
  known_ends is_stale false r disks k c here = let t = k.tail refl c here in tail t.byte r.body t.not_open k.fits t.is

pub known_says : {D : Type 0} (images : D → List ℕ → Type 0) (second : Bool) (gate : ℕ) (is_closed : Bool) (r : Reading) (disks : Pair D) → Known images second gate false is_closed r disks → (x y : List ℕ) → images disks.a x → images disks.b y → Says r.lists x y
known_says images true gate is_closed r disks k x y at_a at_b = record {
  second = true;
  generation = r.generation;
  bodies = r.bodies;
  list = k.list;
  one = k.one;
  ends = known_ends images true gate false is_closed r disks k y at_b;
  beside = harmless_any false r.generation r.lists x (idle_harmless _ _ _ (k.idle refl) x at_a);
}
known_says images false gate is_closed r disks k x y at_a at_b = record {
  second = false;
  generation = r.generation;
  bodies = r.bodies;
  list = k.list;
  one = k.one;
  ends = known_ends images false gate false is_closed r disks k x at_a;
  beside = harmless_any true r.generation r.lists y (idle_harmless _ _ _ (k.idle refl) y at_b);
}

-- once the spare side is closed
pub known_shut : {D : Type 0} (images : D → List ℕ → Type 0) (second : Bool) (gate : ℕ) (is_stale is_closed : Bool) (r : Reading) (old new : Pair D) → Known images second gate is_stale is_closed r old → chosen second new ≡ chosen second old
    → Idle (not second) r.generation (images (spare second new)) → Known images second gate false is_closed r new
known_shut images second gate is_stale is_closed r old new k same idle = record {
  list = k.list;
  one = k.one;
  size = k.size;
  fits = k.fits;
  closed = λ e. subst (λ d. Every (images d) (Closed (side r.generation r.bodies))) (sym same) (k.closed e);
  tail = λ e. subst (λ d. Every (images d) (TailOf r)) (sym same) (k.tail e);
  stale = λ e. absurd (cc e);
  idle = λ e. idle;
}

pub held_of : {D : Type 0} (images : D → List ℕ → Type 0) (second : Bool) (gate : ℕ) (r : Reading) (disks : Pair D) → Known images second gate false true r disks → HeldClosed images second r.generation gate r.bodies disks
held_of images second gate r disks k = record { list = k.list; size = k.size; ends = k.closed refl; beside = k.idle refl }

pub begun_of : {D : Type 0} (images : D → List ℕ → Type 0) (second : Bool) (gate : ℕ) (r : Reading) (disks : Pair D) → Known images second gate false false r disks → HeldBegun images second r.generation gate r.bodies r.body disks
begun_of images second gate r disks k = record { list = k.list; size = k.size; ends = λ c here. let t = k.tail refl c here in record { byte = t.byte; is = t.is }; beside = k.idle refl }

pub one_more : (lists : List (List (List ℕ))) (bodies others : List (List ℕ)) → OneOf lists bodies → OneOf (bodies ∷ []) others → OneOf lists others
one_more lists bodies others one (inl same) = subst (OneOf lists) (sym same) one
one_more lists bodies others one (inr none) = absurd none

pub harmless_more : (is_b : Bool) (generation : ℕ) (lists : List (List (List ℕ))) (bodies : List (List ℕ)) (c : List ℕ) → OneOf lists bodies → Harmless is_b generation (bodies ∷ []) c → Harmless is_b generation lists c
harmless_more is_b generation lists bodies c one (short h) = short h
harmless_more is_b generation lists bodies c one (shut h) = shut h
harmless_more is_b generation lists bodies c one (older own m h) = older own m h
harmless_more is_b generation lists bodies c one (tied h m) = tied h m
harmless_more is_b generation lists bodies c one (equal gate own others not_open l o h) = equal gate own others not_open l (one_more lists bodies others one o) h

-- a list that is one of these
pub says_more : (lists : List (List (List ℕ))) (bodies : List (List ℕ)) (a b : List ℕ) → OneOf lists bodies → Says (bodies ∷ []) a b → Says lists a b
says_more lists bodies a b one s = record {
  second = s.second;
  generation = s.generation;
  bodies = s.bodies;
  list = s.list;
  one = one_more lists bodies s.bodies one s.one;
  ends = s.ends;
  beside = harmless_more (not s.second) s.generation lists bodies (cond s.second a b) one s.beside;
}

pub says_or : (is_closed : Bool) (r : Reading) (a b : List ℕ) → is_closed ≡ false → OneOf r.lists r.bodies → With r.bodies r.body a b → SaysOr is_closed r a b
says_or is_closed r a b tailed one (inl s) = inl (says_more r.lists r.bodies a b one s)
says_or is_closed r a b tailed one (inr s) = inr (tailed, s)

pub within_more : {D : Type 0} (moment : D → ℕ) (since : D → ℕ → List ℕ → Type 0) (P Q : List ℕ → List ℕ → Type 0) (old new : Pair D) → ((x y : List ℕ) → P x y → Q x y) → Within moment since P old new → Within moment since Q old new
within_more moment since P Q old new is w = record { a = w.a; b = w.b; each = λ x y had_a had_b. is x y (w.each x y had_a had_b) }

-- of a chain
pub always_more : {D : Type 0} (moment : D → ℕ) (since : D → ℕ → List ℕ → Type 0) (P Q : List ℕ → List ℕ → Type 0) (old new : Pair D) → ((x y : List ℕ) → P x y → Q x y) → Always moment since P old new → Always moment since Q old new
always_more moment since P Q old new is (once x y w) = once x y (within_more moment since P Q x y is w)
always_more moment since P Q old new is (link x mid y w rest) = link x mid y (within_more moment since P Q x mid is w) (always_more moment since P Q mid y is rest)

pub always_on : {D : Type 0} (moment : D → ℕ) (since : D → ℕ → List ℕ → Type 0) (P : List ℕ → List ℕ → Type 0) (old mid new : Pair D) → Always moment since P old mid → Always moment since P mid new → Always moment since P old new
always_on moment since P old mid new (once x y w) more = link x y new w more
always_on moment since P old mid new (link x z y w rest) more = link x z new w (always_on moment since P z y new rest more)
