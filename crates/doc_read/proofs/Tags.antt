-- One turn over the attributes of a tag.
use Rattle.std.proofs.Common.{◌≡◌, ℕ, suc, ◌<◌, ◌≤◌, ◌-◌, ◌+◌, List, [], ◌∷◌, ◌++◌, cond, Ok, Err, refl, arith}
use Rattle.wfs_ends.specs.Read.{◌>>=◌}
use Rattle.doc_read.specs.declared.fault.DocFault.TheVariants.{Malformed}
use Rattle.doc_read.specs.declared.lex.Class.TheVariants.{Space, NameStart}
use Rattle.doc_read.specs.Chars.{starts, skip_space}
use Rattle.doc_read.specs.Lex.{Raw, raw_attribute_at, attributes_at}

pub attributes_turn : (n i : ℕ) (found : List Raw) (cs : List ℕ) → i < n → attributes_at (n - i) found cs ≡ cond (starts NameStart (skip_space cs)) (cond (starts Space cs) (raw_attribute_at (skip_space cs) >>= λ a. attributes_at (n - (i + 1)) (found ++ a.0 ∷ []) a.1) (Err Malformed)) (Ok (found, skip_space cs))
unfolding attributes_at
attributes_turn n i found cs lt =
    let k : n - i ≡ suc (n - (i + 1)) = omega arith in
    rw k refl

pub attributes_out : (n i : ℕ) (found : List Raw) (cs : List ℕ) → n ≤ i → attributes_at (n - i) found cs ≡ Err Malformed
unfolding attributes_at
attributes_out n i found cs le =
    let k : n - i ≡ 0 = omega arith in
    rw k refl
