-- The bytes in the buffer.
use Rattle.std.proofs.Common.{◌≡◌, ℕ, ◌+◌, ◌-◌, ◌≤◌, List, ◌++◌, length, take, drop, Option, Some, None, refl, sym, ap, ap₂, ◌∙◌, arith, append_assoc}
use Rattle.std.specs.Prelude.{IfSome}
use Rattle.std.proofs.Math.Seq.{take-add}
use Rattle.std.proofs.lemmas.List.{drop-take, take-append-drop, drop-drop}
use Rattle.wfs_ends.specs.Ends.{left_after}
use Rattle.http_session.specs.Reading.{after_buffer}

pub skipped : (s e n : ℕ) (xs : List ℕ) → n ≤ e - s → take (e - (s + n)) (drop (s + n) xs) ≡ drop n (take (e - s) (drop s xs))
skipped s e n xs le =
    let k : e - s ≡ n + (e - (s + n)) = omega arith in
    rw k (sym (drop-take n (e - (s + n)) (drop s xs) ∙ ap (take (e - (s + n))) (drop-drop n s xs)))

pub view_same : (ws ys zs : List ℕ) (s h r : ℕ) → take h (drop r ys) ≡ take h (drop s ws) → take (r + h) zs ≡ take (r + h) ys → take h (drop r zs) ≡ take h (drop s ws)
view_same ws ys zs s h r same front = sym (drop-take r h zs) ∙ ap (drop r) front ∙ drop-take r h ys ∙ same

-- the bytes in use, and those that were taken behind them
pub view_more : (ws ys zs : List ℕ) (s h r n : ℕ) → take h (drop r ys) ≡ take h (drop s ws) → take (r + h) zs ≡ take (r + h) ys → take (h + n) (drop r zs) ≡ take h (drop s ws) ++ take n (drop (r + h) zs)
view_more ws ys zs s h r n same front =
    take-add h n (drop r zs) ∙ ap₂ ◌++◌ (view_same ws ys zs s h r same front) (ap (take n) (drop-drop h r zs))

pub moved_more : (old new mid : List ℕ) (l l' : Option (List ℕ)) (n : ℕ) → l' ≡ left_after l n → IfSome l (λ left. (n ≤ length left) × (mid ≡ take n left)) → new ≡ old ++ mid → after_buffer new l' ≡ after_buffer old l
moved_more old new mid None l' n e h w = rw e refl
moved_more old new mid (Some left) l' n e h w = rw (e, w, h.1) (ap Some (append_assoc old (take n left) (drop n left) ∙ ap (λ (t : List ℕ). old ++ t) (take-append-drop n left)))

pub moved_none : (l l' : Option (List ℕ)) → l' ≡ left_after l 0 → l' ≡ l
moved_none None l' e = e
moved_none (Some left) l' e = e
