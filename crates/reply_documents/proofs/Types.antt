-- The types of what stored queries give: one query more.
use Rattle.std.proofs.Common.{◌≡◌, ℕ, Bool, true, false, ◌+◌, ◌<◌, ◌≤◌, List, [], ◌∷◌, ◌++◌, length, take, get_or, Option, Some, None, refl, ap, sym, subst, ◌∙◌, append_assoc}
use Rattle.std.specs.Prelude.{if◌then◌else◌}
use Rattle.std.specs.List.{flat_map}
use Rattle.std.specs.Option.{option_to_list}
use Rattle.std.proofs.lemmas.List.{append-nil, take_all}
use Rattle.std.proofs.lemmas.Grind.{flat_map-append}
use Rattle.wfs_ends.specs.Ends.{Writing, Writes}
use Rattle.wfs_ends.proofs.Writing.{wrote_both}
use Rattle.feature_values.specs.declared.schema.FeatureType.{FeatureType}
use Rattle.feature_values.specs.declared.schema.Schema.{Schema}
use Rattle.fes_filter.specs.declared.query.Query.{Query}
use Rattle.service_docs.proofs.InTurn.{in_turn_more, flat_map_one}
use Rattle.reply_documents.specs.StoredQueries.{type_asked, types_asked, type_between, asked_text, still_none, types_between}

-- no type stands there yet
abbrev pub is_none_yet : List FeatureType → Bool
is_none_yet [] = true
is_none_yet (t ∷ ts) = false

none_more : (ts : List FeatureType) (o : Option FeatureType) → is_none_yet (ts ++ option_to_list o) ≡ still_none (is_none_yet ts) o
none_more [] None = refl
none_more [] (Some t) = refl
none_more (u ∷ us) None = refl
none_more (u ∷ us) (Some t) = refl

module _ (first later : List ℕ) (schema : Schema) (end : List ℕ) where
  abbrev pub between : List FeatureType → List ℕ
  between ts = types_between first later schema end ts

  abbrev pub one : Bool → Option FeatureType → List ℕ
  one none o = asked_text (if none then first else later) schema end o

  between_more : (ts : List FeatureType) (o : Option FeatureType) → between (ts ++ option_to_list o) ≡ between ts ++ one (is_none_yet ts) o
  between_more ts None = ap between (append-nil ts) ∙ sym (append-nil (between ts))
  between_more [] (Some t) = append-nil (type_between first schema end t)
  between_more (u ∷ us) (Some t) =
      let g = type_between later schema end in
      ap (λ (text : List ℕ). type_between first schema end u ++ text)
      (flat_map-append g us (t ∷ []) ∙ ap (λ (text : List ℕ). flat_map g us ++ text) (flat_map_one g t))
      ∙ sym (append_assoc (type_between first schema end u) (flat_map g us) (g t))

  module _ (queries : List Query) (i : ℕ) (q : Query) (o : Option FeatureType) where
    abbrev pub so_far : List FeatureType
    so_far = types_asked schema (take i queries)

    next : i < length queries → q ≡ get_or queries i q → o ≡ type_asked schema (take i queries) q
        → types_asked schema (take (i + 1) queries) ≡ so_far ++ option_to_list o
    next lt e is = in_turn_more (λ before query. option_to_list (type_asked schema before query)) queries i q lt e
        ∙ ap (λ (p : Option FeatureType). so_far ++ option_to_list p) (sym is)

    -- one more turn of a loop over queries
    pub wrote_asked : (none : Bool) (s0 s1 s2 : Writing) → i < length queries → q ≡ get_or queries i q
        → o ≡ type_asked schema (take i queries) q → none ≡ is_none_yet so_far
        → Writes s0 (between so_far) s1 → Writes s1 (one none o) s2 → Writes s0 (between (types_asked schema (take (i + 1) queries))) s2
    wrote_asked none s0 s1 s2 lt e is n a b = rw (next lt e is, between_more so_far o, ← n) (wrote_both s0 s1 s2 _ _ a b)

    -- whether there is still none
    pub none_now : (none : Bool) → i < length queries → q ≡ get_or queries i q → o ≡ type_asked schema (take i queries) q → none ≡ is_none_yet so_far
        → still_none none o ≡ is_none_yet (types_asked schema (take (i + 1) queries))
    none_now none lt e is n = rw (next lt e is, none_more so_far o, ← n) refl

  -- after the last turn
  pub wrote_all_asked : (queries : List Query) (i : ℕ) (s0 s1 : Writing) → length queries ≤ i
      → Writes s0 (between (types_asked schema (take i queries))) s1 → Writes s0 (between (types_asked schema queries)) s1
  wrote_all_asked queries i s0 s1 le w = subst (λ (qs : List Query). Writes s0 (between (types_asked schema qs)) s1) (take_all i queries le) w
