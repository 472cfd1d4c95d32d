-- Bodies of a stated length.
use Rattle.std.proofs.Common.{◌≡◌, ◌≢◌, ℕ, ◌+◌, ◌<◌, ◌≤◌, List, [], ◌++◌, length, take, drop, refl, sym, ap, ap₂, ◌∙◌, arith, append_assoc, Option, Some, None, true, nat_lt}
use Rattle.std.specs.Prelude.{IfSome, min}
use Rattle.std.proofs.lemmas.List.{take_all, drop_all, length-append, length-take, take-append-drop}
use Rattle.std.proofs.Math.Seq.{take-add}
use Rattle.wfs_ends.specs.Ends.{Shown, KeepsGiven, Rose, left_after}
use Rattle.std.proofs.lemmas.Bool.Decides.{nat_tests}
use Rattle.http_session.specs.declared.message.Ending.TheVariants as ending
use Rattle.http_session.specs.declared.plan.Body.TheVariants as way
use Rattle.http_session.specs.Frames.{no_content, IsBody}
use Rattle.http_session.specs.declared.body.Full.{Full}
use Rattle.http_session.specs.declared.body.Full.TheVariants as full
use Rattle.http_session.specs.Reading.{after_buffer, IsFault, IsRest, IsFull}
use Rattle.http_session.proofs.Spots.{after_none}

pub keeps_stay : (s : Shown) → KeepsGiven s s
keeps_stay s = record { given = refl; passed = refl; puts = refl; takes = omega arith; place = refl }

pub keeps_on : (s t u : Shown) → KeepsGiven s t → KeepsGiven t u → KeepsGiven s u
keeps_on s t u m n = record { given = n.given ∙ m.given; passed = n.passed ∙ m.passed; puts = n.puts ∙ m.puts; takes = omega (arith, m.takes, n.takes); place = n.place ∙ m.place }

-- n more bytes behind the first f
pub rest_more : (all left left' : Option (List ℕ)) (f n : ℕ) (old new : List ℕ) → all ≡ after_buffer (take f old) left → take f new ≡ take f old → left' ≡ left_after left n
    → IfSome left (λ l. (n ≤ length l) × (take n (drop f new) ≡ take n l)) → all ≡ after_buffer (take (f + n) new) left'
rest_more all None left' f n old new inv front e h = inv ∙ rw e refl
rest_more all (Some l) left' f n old new inv front e h =
    rw e (inv ∙ ap Some (ap₂ ◌++◌ (sym front) (sym (take-append-drop n l)) ∙ sym (append_assoc (take f new) (take n l) (drop n l)) ∙ ap (λ (x : List ℕ). x ++ drop n l) (ap (λ (x : List ℕ). take f new ++ x) (sym h.1) ∙ sym (take-add f n new))))

-- the input ended before the body was full
pub rest_ended : (start f : ℕ) (left left' : Option (List ℕ)) (old new : List ℕ) → after_buffer (take start old) left ≡ after_buffer (take f new) left' → IfSome left' (λ l. l ≡ [])
    → start ≤ length old → f < length new → length new ≡ length old → IfSome left (λ l. start + length l < length old)
rest_ended start f None left' old new inv none le lt len = tt
rest_ended start f (Some l) None old new inv none le lt len = absurd cc
rest_ended start f (Some l) (Some l') old new inv none le lt len =
    let e : take start old ++ l ≡ take f new ++ l' = cc in
    let k = ap length e in
    let a = length-append (take start old) l in
    let b = length-append (take f new) l' in
    let c : length l' ≡ 0 = ap length none in
    let d = length-take start old in
    let m = length-take f new in
    omega arith

-- the link failed before the body was full
pub rest_fault : (start f : ℕ) (s m u : Shown) (old new : List ℕ) → after_buffer (take start old) s.left ≡ after_buffer (take f new) m.left → u.left ≡ m.left → KeepsGiven s m → Rose m.failed_takes u.failed_takes
    → f < length new → length new ≡ length old → (q : IsFault (after_buffer (take start old) s.left) s u) × (length q.reached.taken < length old)
rest_fault start f s m u old new inv same k c lt len = (
  record {
    reached = record { taken = take f new; parts = inv ∙ ap (after_buffer (take f new)) (sym same) };
    cause = omega (arith, k.takes, c);
  },
  let l = length-take f new in omega (arith, l, lt, len),
)

-- the buffer was used up, and the rest was read behind it
pub fill_rest : (r : Full) (b bs used copied filled : List ℕ) (s u : Shown) (held n : ℕ) → bs ≡ b → used ≡ drop held b → take held copied ≡ take held bs → held ≡ min n (length bs) → n ≡ length copied → held ≢ length copied
    → length filled ≡ length copied → IsRest r held copied s filled u → IsFull r filled b s used u
fill_rest r b bs used copied filled s u held n same skip front less long more len h = by r s.left u.left h
  where
    all : held ≡ length b
    all = let k = ap length same in omega (arith, less, long, more, k)

    whole : take held copied ≡ b
    whole = front ∙ ap (take held) same ∙ take_all held b (omega (arith, all))

    none : used ≡ []
    none = skip ∙ drop_all held b (omega (arith, all))

    by : (r : Full) (left now : Option (List ℕ)) → IsRest r held copied (record s { left = left }) filled (record u { left = now }) → IsFull r filled b (record s { left = left }) used (record u { left = now })
    by full.Whole left now h = ap (λ (x : List ℕ). after_buffer x left) (sym whole) ∙ h ∙ ap (after_buffer filled) (after_none now ∙ ap (λ (x : List ℕ). after_buffer x now) (sym none))
    by full.End None now h = tt
    by full.End (Some l) now h = let k = length-append b l in omega (arith, k, h, all, len)
    by full.Fault left now (q, lt) = (
      record {
        reached = record { taken = q.reached.taken; parts = ap (λ (x : List ℕ). after_buffer x left) (sym whole) ∙ q.reached.parts };
        cause = q.cause;
      },
      omega (arith, lt, len),
    )

-- a body of a stated length that is not full where the link fails
pub sized_fault : (n : ℕ) (body : List ℕ) (o : Option (List ℕ)) (s u : Shown) → length body ≡ n → (q : IsFault o s u) × (length q.reached.taken < length body)
    → (q : IsFault o s u) × IsBody (way.Sized n) q.reached.taken (no_content ending.Cut)
sized_fault n body o s u is (q, lt) = let short : nat_lt (length q.reached.taken) n ≡ true = grind (arith, nat_tests, lt, is) in (q, rw short refl)

-- all of a body was in the buffer
pub fill_whole : (b bs used copied : List ℕ) (left : Option (List ℕ)) (held : ℕ) → bs ≡ b → used ≡ drop held b → held ≡ length copied → take held copied ≡ take held bs → after_buffer b left ≡ after_buffer copied (after_buffer used left)
fill_whole b bs used copied None held same skip is front = refl
fill_whole b bs used copied (Some l) held same skip is front =
    let whole : copied ≡ take held b = sym (take_all held copied (omega arith)) ∙ front ∙ ap (take held) same in
    rw skip (ap Some (ap (λ (x : List ℕ). x ++ l) (sym (take-append-drop held b)) ∙ append_assoc (take held b) (drop held b) l ∙ ap (λ (x : List ℕ). x ++ (drop held b ++ l)) (sym whole)))
