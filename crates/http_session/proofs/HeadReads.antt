-- What is known of the bytes in the buffer holds of all that are still to be read.
use Rattle.std.proofs.Common.{◌≡◌, ℕ, ◌+◌, ◌-◌, ◌≤◌, List, [], ◌++◌, length, take, refl, sym, ap, subst, ◌∙◌, arith, append_assoc, append-nil, Option, Some, None}
use Rattle.std.specs.Prelude.{IfSome}
use Rattle.std.proofs.lemmas.List.{take_all, take_at, length-append}
use Rattle.std.proofs.Math.Seq.{take-append-add}
use Rattle.wfs_ends.specs.Ends.{Shown}
use Rattle.http_session.specs.declared.message.Ending.TheVariants as ending
use Rattle.http_session.specs.Heads.{IsBad, IsUndecided, EndsWithoutHead, head_limit}
use Rattle.http_session.specs.Reading.{after_buffer, Moved, HeadAt, IsHeadFull, IsHeadEnd, IsHeadRead}
use Rattle.httparse.specs.declared.spans.HeaderSpan.{HeaderSpan}
use Rattle.http_session.specs.declared.head.HeadRead.{HeadRead}
use Rattle.http_session.specs.declared.head.HeadRead.TheVariants as read

pub bad_more : (a b : List ℕ) → IsBad a → IsBad (a ++ b)
bad_more a b (front, rest, whole, out, never) = (front, rest ++ b, ap (λ (x : List ℕ). x ++ b) whole ∙ append_assoc front rest b, out, never)

-- a short list is in front of any longer one, cut or not
pub front_taken : (n : ℕ) (a b : List ℕ) → length a ≤ n → take n (a ++ b) ≡ a ++ take (n - length a) b
front_taken n a b le = let k : n ≡ length a + (n - length a) = omega arith in ap (λ (m : ℕ). take m (a ++ b)) k ∙ take-append-add a b (n - length a)

pub bad_taken : (a b : List ℕ) → length a ≤ head_limit → IsBad a → IsBad (take head_limit (a ++ b))
bad_taken a b le bad = subst IsBad (sym (front_taken head_limit a b le)) (bad_more a (take (head_limit - length a) b) bad)

pub bad_all : (a : List ℕ) → length a ≤ head_limit → IsBad a → IsBad (take head_limit a)
bad_all a le bad = subst IsBad (sym (take_all head_limit a le)) bad

pub full_undecided : (a b : List ℕ) → length a ≡ head_limit → IsUndecided a → EndsWithoutHead (a ++ b) ending.TooLarge
full_undecided a b is may = (subst IsUndecided (sym (take_at a b head_limit is)) may, rw length-append (omega arith))

pub full_bad : (a b : List ℕ) → length a ≡ head_limit → IsBad a → EndsWithoutHead (a ++ b) ending.BadHead
full_bad a b is bad = bad_taken a b (omega arith) bad

pub ahead_of : (P : List ℕ → Type 0) (a : List ℕ) (left : Option (List ℕ)) → ((b : List ℕ) → P (a ++ b)) → IfSome (after_buffer a left) P
ahead_of P a None all = tt
ahead_of P a (Some b) all = all b

pub ahead_at_end : (P : List ℕ → Type 0) (a : List ℕ) (left : Option (List ℕ)) → IfSome left (λ b. b ≡ []) → P a → IfSome (after_buffer a left) P
ahead_at_end P a None none p = tt
ahead_at_end P a (Some b) none p = subst P (sym (ap (λ (x : List ℕ). a ++ x) none ∙ append-nil a)) p

pub moved_stay : (a : List ℕ) (s : Shown) → Moved a s a s
moved_stay a s = record { same = refl; keeps = record { given = refl; passed = refl; puts = refl; takes = omega arith; place = refl } }

pub moved_on : (a b c : List ℕ) (s t u : Shown) → Moved a s b t → Moved b t c u → Moved a s c u
moved_on a b c s t u m n = record {
  same = n.same ∙ m.same;
  keeps = record { given = n.keeps.given ∙ m.keeps.given; passed = n.keeps.passed ∙ m.keeps.passed; puts = n.keeps.puts ∙ m.keeps.puts; takes = omega (arith, m.keeps.takes, n.keeps.takes); place = n.keeps.place ∙ m.keeps.place };
}

pub full_read : (r : HeadRead) (a b : List ℕ) (headers : List HeaderSpan) (before after : Shown) → a ≡ b → IsHeadFull r a headers → IsHeadRead r b headers before after
full_read (read.Head spans) a b headers before after e h = subst (λ (k : List ℕ). HeadAt k headers spans) e h
full_read (read.Ended ending) a b headers before after e h = ahead_of (λ k. EndsWithoutHead k ending) b after.left (subst (λ (k : List ℕ). (more : List ℕ) → EndsWithoutHead (k ++ more) ending) e h)
full_read read.Fault a b headers before after e h = absurd h

pub end_read : (r : HeadRead) (a b : List ℕ) (headers : List HeaderSpan) (before after : Shown) → a ≡ b → IfSome after.left (λ left. left ≡ []) → IsHeadEnd r a headers → IsHeadRead r b headers before after
end_read (read.Head spans) a b headers before after e none h = subst (λ (k : List ℕ). HeadAt k headers spans) e h
end_read (read.Ended ending) a b headers before after e none h = ahead_at_end (λ k. EndsWithoutHead k ending) b after.left none (subst (λ (k : List ℕ). EndsWithoutHead k ending) e h)
end_read read.Fault a b headers before after e none h = absurd h

pub bad_read : (a b : List ℕ) (left : Option (List ℕ)) → a ≡ b → length b ≤ head_limit → IsBad a → IfSome (after_buffer b left) (λ bytes. EndsWithoutHead bytes ending.BadHead)
bad_read a b left e le bad = ahead_of (λ k. EndsWithoutHead k ending.BadHead) b left (λ more. bad_taken b more le (subst IsBad e bad))
