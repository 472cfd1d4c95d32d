-- Canonical texts of elements that are made of parts, and how large they may be.
use Rattle.std.proofs.Common.{◌≡◌, ℕ, suc, pred, ◌+◌, ◌≤◌, ◌<◌, Bool, true, false, List, [], ◌∷◌, refl, arith}
use Rattle.std.specs.List.{list_all}
use Rattle.doc_tree.specs.declared.tree.QName.{QName}
use Rattle.doc_tree.specs.declared.tree.Attribute.{Attribute}
use Rattle.doc_tree.specs.declared.tree.Element.{Element}
use Rattle.doc_tree.specs.declared.tree.Prefixes.{Prefixes}
use Rattle.doc_read.specs.declared.scope.Bound.{Bound}
use Rattle.doc_read.specs.Scope.{has_twins, same_pair, expanded_names}
use Rattle.doc_read.specs.Element.{tree}
use Rattle.doc_read.specs.Grammar.{IsName, Markup, leaf, whole, Content, last, piece, child, text_if, IsMarkup, IsContent, IsFew}
use Rattle.doc_laws.specs.RoundTrip.{ArePrefixes, is_covered}
use Rattle.doc_laws.proofs.Facts.{Meant, AreGood}
use Rattle.doc_laws.proofs.Prefixed.{known}
use Rattle.doc_laws.proofs.Heads.{head_written}
use Rattle.doc_laws.proofs.Canonical.{Canon, CanonContent, no_content, one_child, whole_canon}

-- ---- an element of parts

-- a name and attributes that can be written with these prefixes
pub record IsTag (names : Prefixes) (name : QName) (xs : List Attribute) : Type 0 where
  pub covered : is_covered names name ≡ true
  pub local : IsName name.local
  pub attributes : list_all (λ a. is_covered names a.name) xs ≡ true
  pub good : AreGood xs
  pub once : has_twins same_pair (expanded_names xs) ≡ false
  pub few : IsFew xs

-- an element with such a tag, and with elements or a text in it
pub node : (names : Prefixes) (is_root : Bool) (d n : ℕ) (name : QName) (xs : List Attribute) (kids : List Element) (text : List ℕ) → ArePrefixes names → IsTag names name xs → Meant text
    → CanonContent names false d kids n → Canon names is_root (suc d) (tree name xs kids (text_if kids text)) (suc n)
node names is_root d n name xs kids text are tag meant c =
    whole_canon names is_root (suc d) name xs kids text n (omega arith) tag.few (known names name are tag.covered tag.local)
    (head_written names is_root name xs are tag.covered tag.local tag.attributes tag.good tag.once) meant c

-- ---- more levels and elements than there are

fewer : (d k : ℕ) → d ≤ k → pred d ≤ pred k
fewer d k le = omega (arith, le)

mutual
  deeper : (m : Markup) (d k : ℕ) (scope : List Bound) → d ≤ k → IsMarkup m d scope → IsMarkup m k scope
  deeper (leaf text h) d k scope le is = (omega (arith, le, is.0), is.1, is.2, is.3)
  deeper (whole text h c gap) d k scope le is = (omega (arith, le, is.0), is.1, is.2, is.3, content_deeper c (pred d) (pred k) h.scope (fewer d k le) is.4, is.5, is.6)

  content_deeper : (c : Content) (d k : ℕ) (scope : List Bound) → d ≤ k → IsContent c d scope → IsContent c k scope
  content_deeper (last run) d k scope le is = is
  content_deeper (piece run p c) d k scope le is = (is.0, is.1, content_deeper c d k scope le is.2)
  content_deeper (child run m c) d k scope le is = (is.0, deeper m d k scope le is.1, content_deeper c d k scope le is.2)

pub more : (names : Prefixes) (is_root : Bool) (d k n m : ℕ) (e : Element) → d ≤ k → n ≤ m → Canon names is_root d e n → Canon names is_root k e m
more names is_root d k n m e le few c = record {
  markup = c.markup;
  fits = deeper c.markup d k _ le c.fits;
  means = c.means;
  counted = omega (arith, c.counted, few);
  printed_safe = c.printed_safe;
  same = c.same;
}

pub content_more : (names : Prefixes) (is_root : Bool) (d k n m : ℕ) (es : List Element) → d ≤ k → n ≤ m → CanonContent names is_root d es n → CanonContent names is_root k es m
content_more names is_root d k n m es le few c = record {
  content = c.content;
  fits = content_deeper c.content d k _ le c.fits;
  kids_are = c.kids_are;
  words = c.words;
  counted = omega (arith, c.counted, few);
  printed_safe = c.printed_safe;
  same = c.same;
}

-- ---- elements of parts, within so many levels and elements

pub bare : (names : Prefixes) (name : QName) → is_covered names name ≡ true → IsName name.local → IsTag names name []
unfolding has_twins
bare names name covered local = record { covered = covered; local = local; attributes = refl; good = tt; once = refl; few = omega arith }

pub standing_node : (names : Prefixes) (is_root : Bool) (d n : ℕ) (name : QName) (xs : List Attribute) (kids : List Element) (text : List ℕ) → ArePrefixes names → IsTag names name xs → Meant text → 0 < d → 0 < n
    → CanonContent names false (pred d) kids (pred n) → Canon names is_root d (tree name xs kids (text_if kids text)) n
standing_node names is_root d n name xs kids text are tag meant deep some c =
    more names is_root (suc (pred d)) d (suc (pred n)) n _ (omega (arith, deep)) (omega (arith, some)) (node names is_root (pred d) (pred n) name xs kids text are tag meant c)

pub nothing : (names : Prefixes) (is_root : Bool) (d n : ℕ) → CanonContent names is_root d [] n
nothing names is_root d n = content_more names is_root d d 0 n [] (omega arith) (omega arith) (no_content names is_root d)

pub beside : (names : Prefixes) (is_root : Bool) (d k m n : ℕ) (e : Element) (es : List Element) → k + m ≤ n → Canon names is_root d e k → CanonContent names is_root d es m → CanonContent names is_root d (e ∷ es) n
beside names is_root d k m n e es total one all = content_more names is_root d d (k + m) n (e ∷ es) (omega arith) total (one_child names is_root d e es k m one all)

pub alone : (names : Prefixes) (is_root : Bool) (d n : ℕ) (e : Element) → Canon names is_root d e n → CanonContent names is_root d (e ∷ []) n
alone names is_root d n e one = beside names is_root d n 0 n e [] (omega arith) one (nothing names is_root d 0)
