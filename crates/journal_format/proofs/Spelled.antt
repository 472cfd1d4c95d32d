-- What is read was written so: values, parts, stored queries and changes.
use Rattle.std.proofs.Common.{◌≡◌, ℕ, ◌^◌, ◌<◌, ◌≤◌, Bool, true, false, List, [], ◌∷◌, ◌++◌, length, get_or, Some, Ok, Err, refl, sym, ap, ◌∙◌, subst, arith, append_assoc, inl, inr}
use Rattle.std.specs.Prelude.{All, ⊤, FitsSigned, if◌then◌else◌, ◌==◌}
use Rattle.std.specs.Int.{w64, cast_signed, cast_unsigned}
use Rattle.std.specs.Str.{IsUtf8}
use Rattle.std.proofs.Math.Facts.{sfits_to_z}
use Rattle.std.proofs.lemmas.Bool.Decides.{nat_tests}
use Rattle.std.proofs.lemmas.Int.{of_z-to_z}
use Rattle.std.proofs.lemmas.List.{append-nil}
use Rattle.std.proofs.lemmas.List.Elements.{All-from_get_or}
use Rattle.geom_core.specs.Plane.{IsPosition}
use Rattle.geom_core.specs.Valid.{IsLineOf, IsAreaOf}
use Rattle.geom_core.specs.declared.geometry.Geometry.TheVariants.{At, Along, Over}
use Rattle.feature_values.specs.declared.value.Value.{Value}
use Rattle.feature_values.specs.declared.value.Value.TheVariants.{Null, Words, Whole, Truth, Shape}
use Rattle.wfs_model.specs.declared.stored.StoredQuery.{StoredQuery}
use Rattle.wfs_model.specs.declared.change.Part.{Part}
use Rattle.wfs_model.specs.declared.change.Part.TheVariants.{Put, Remove}
use Rattle.wfs_model.specs.declared.change.Change.TheVariants.{Opening, Rows, Created, Dropped, Base}
use Rattle.wfs_ends.specs.Read.{◌>>=◌}
use Rattle.wfs_ends.proofs.Turns.{bind_ok, chosen, ok_is}
use Rattle.journal_format.specs.declared.fault.RecordFault.{RecordFault}
use Rattle.journal_format.specs.declared.fault.RecordFault.TheVariants.{Kind}
use Rattle.journal_format.specs.declared.recorded.Recorded.{Recorded}
use Rattle.journal_format.specs.Numbers.{AreBytes, Reads, be, number_at, first_of}
use Rattle.journal_format.specs.Reading.{counted_at, text_at, counter_at, point_at, line_at, area_at, truth_at, point_value_at, value_of, value_at, id_at, put_at, remove_at, part_of, part_at, stored_at, plain, opening_at, base_at, change_of, ended, record_of}
use Rattle.journal_format.specs.Spelling.{text_bytes, counted, counter_bytes, point_bytes, path_bytes, area_bytes, truth_bytes, value_bytes, id_bytes, part_bytes, stored_bytes, body_of, IsShort, AreShort}
use Rattle.journal_format.specs.Writable.{IsCounter, IsValue, IsId, IsPart, IsStored, IsWritable}
use Rattle.journal_format.specs.RoundTrip.{text_or_empty, spelling_of, IsSpelledBy, HasOneSpelling}
use Rattle.journal_format.proofs.Digits.{number_exact}
use Rattle.journal_format.proofs.Exact.{behind, counted_exact, text_exact, point_exact, line_exact, area_exact}
use Rattle.journal_format.proofs.Words.{IsRead, IsExact}

-- ---- kinds

first_whole : (bytes : List ℕ) (x : ℕ × List ℕ) → first_of bytes ≡ Ok x → bytes ≡ x.0 ∷ x.1
unfolding first_of
first_whole [] x e = absurd cc
first_whole (b ∷ bytes) x e = let is = ok_is RecordFault _ _ e in ap (λ y. y.0 ∷ y.1) is

-- one kind or another
kinds : {A : Type 0} (P : Type 0) (kind k : ℕ) (here other : Reads A) (x : A × List ℕ) → (if kind == k then here else other) ≡ Ok x → (kind ≡ k → here ≡ Ok x → P) → (other ≡ Ok x → P) → P
kinds P kind k here other x e yes_here on = elim (chosen (kind == k) here other (Ok x) e) [
  | inl w ↦ let is : kind ≡ k = grind (arith, nat_tests, w.0) in yes_here is w.1
  | inr w ↦ on w.1
]

-- a kind that stands for itself
module _ {B : Type 0} (outer : B → List ℕ) (Q : B → Type 0) where
  alone : (kind k : ℕ) → kind ≡ k → (b : B) → outer b ≡ k ∷ [] → Q b → (bytes : List ℕ) (x : B × List ℕ) → ◌≡◌ {A = Reads B} (Ok (b, bytes)) (Ok x) → IsRead outer Q (kind ∷ bytes) x
  alone kind k is b spelled such bytes x e = subst (IsRead outer Q (kind ∷ bytes)) (ok_is RecordFault (b, bytes) x e) (record { whole = rw (spelled, is) refl; such = such })

-- what is read is put into something else, whose kind stands in front
module _ {A B : Type 0} (read : List ℕ → Reads A) (spelling : A → List ℕ) (P : A → Type 0) (make : A → B) (outer : B → List ℕ) (Q : B → Type 0) where
  wrapped : IsExact read spelling P → (kind k : ℕ) → kind ≡ k → ((a : A) → outer (make a) ≡ k ∷ spelling a) → ((a : A) → P a → Q (make a)) → (bytes : List ℕ) (x : B × List ℕ) → AreBytes bytes → (read bytes >>= λ y. Ok (make y.0, y.1)) ≡ Ok x → IsRead outer Q (kind ∷ bytes) x
  wrapped exact kind k is spelled such bytes x are e =
      let b = bind_ok (read bytes) (λ y. Ok (make y.0, y.1)) x e in
      let inner = exact.told bytes b.0 are b.1 in
      subst (IsRead outer Q (kind ∷ bytes)) (ok_is RecordFault (make b.0.0, b.0.1) x b.2)
      (record { whole = ap (λ (l : List ℕ). kind ∷ l) inner.whole ∙ rw (is, spelled b.0.0) refl; such = such b.0.0 inner.such })

both_joined : (front a b ab bytes behind_a behind_b : List ℕ) → bytes ≡ a ++ behind_a → behind_a ≡ b ++ behind_b → ab ≡ front ++ (a ++ b) → front ++ bytes ≡ ab ++ behind_b
both_joined front a b ab bytes behind_a behind_b a_is b_is ab_is = rw (ab_is, a_is, b_is) (simp append_assoc)

-- two things that are read one behind the other and put into something else, with something in front
module _ {A B C : Type 0} (first : List ℕ → Reads A) (second : List ℕ → Reads B) (first_bytes : A → List ℕ) (second_bytes : B → List ℕ) (P : A → Type 0) (Q : B → Type 0) (make : A → B → C) (outer : C → List ℕ) (R : C → Type 0) where
  paired : IsExact first first_bytes P → IsExact second second_bytes Q → (front : List ℕ) → ((a : A) (b : B) → outer (make a b) ≡ front ++ (first_bytes a ++ second_bytes b)) → ((a : A) (b : B) → P a → Q b → R (make a b)) → (bytes : List ℕ) (x : C × List ℕ) → AreBytes bytes → (first bytes >>= λ a. second a.1 >>= λ b. Ok (make a.0 b.0, b.1)) ≡ Ok x → IsRead outer R (front ++ bytes) x
  paired exact_a exact_b front spelled such bytes x are e =
      let a = bind_ok (first bytes) (λ a. second a.1 >>= λ b. Ok (make a.0 b.0, b.1)) x e in
      let a_read = exact_a.told bytes a.0 are a.1 in
      let b = bind_ok (second a.0.1) (λ b. Ok (make a.0.0 b.0, b.1)) x a.2 in
      let b_read = exact_b.told a.0.1 b.0 (behind (first_bytes a.0.0) a.0.1 bytes a_read.whole are) b.1 in
      subst (IsRead outer R (front ++ bytes)) (ok_is RecordFault (make a.0.0 b.0.0, b.0.1) x b.2)
      (record {
        whole = both_joined front (first_bytes a.0.0) (second_bytes b.0.0) (outer (make a.0.0 b.0.0)) bytes a.0.1 b.0.1 a_read.whole b_read.whole (spelled a.0.0 b.0.0);
        such = such a.0.0 b.0.0 a_read.such b_read.such;
      })

-- a thing behind its kind
module _ {A : Type 0} (of_kind : ℕ → List ℕ → Reads A) (spelling : A → List ℕ) (P : A → Type 0) where
  behind_kind : ((kind : ℕ) (bytes : List ℕ) (x : A × List ℕ) → AreBytes bytes → of_kind kind bytes ≡ Ok x → IsRead spelling P (kind ∷ bytes) x) → (bytes : List ℕ) (x : A × List ℕ) → AreBytes bytes → (first_of bytes >>= λ kind. of_kind kind.0 kind.1) ≡ Ok x → IsRead spelling P bytes x
  behind_kind each bytes x are e =
      let b = bind_ok (first_of bytes) (λ kind. of_kind kind.0 kind.1) x e in
      let kind = first_whole bytes b.0 b.1 in
      let found = each b.0.0 b.0.1 x (behind (b.0.0 ∷ []) b.0.1 bytes kind are) b.2 in
      record { whole = kind ∙ found.whole; such = found.such }

-- ---- values

counter_exact : IsExact counter_at counter_bytes IsCounter
unfolding counter_at counter_bytes
counter_exact = record {
  told = λ bytes x are e.
      let number = (number_exact 8).told bytes x are e in
      let small = number.such in
      record { whole = number.whole; such = omega arith };
}

-- a boolean by its byte
truth_of : ℕ → List ℕ → Reads Bool
truth_of b bytes = if b == 0 then Ok (false, bytes) else if b == 1 then Ok (true, bytes) else Err Kind

truth_read : (b : ℕ) (bytes : List ℕ) (x : Bool × List ℕ) → AreBytes bytes → truth_of b bytes ≡ Ok x → IsRead truth_bytes (λ b. ⊤) (b ∷ bytes) x
unfolding truth_of truth_bytes
truth_read b bytes x are e =
    let P = IsRead truth_bytes (λ b. ⊤) (b ∷ bytes) x in
    kinds P b 0 _ _ x e (λ is e. alone truth_bytes (λ b. ⊤) b 0 is false refl tt bytes x e) λ e.
    kinds P b 1 _ _ x e (λ is e. alone truth_bytes (λ b. ⊤) b 1 is true refl tt bytes x e) λ e.
    absurd cc

truth_exact : IsExact truth_at truth_bytes (λ b. ⊤)
unfolding truth_at truth_of
truth_exact = record { told = behind_kind truth_of truth_bytes (λ b. ⊤) truth_read }

whole_fits : (n : ℕ) → n < 256 ^ 8 → FitsSigned w64 (cast_signed w64 n)
whole_fits n less = sfits_to_z (record { fits = less })

whole_read : (kind : ℕ) → kind ≡ 2 → (bytes : List ℕ) (x : Value × List ℕ) → AreBytes bytes → (number_at 8 bytes >>= λ y. Ok (Whole (cast_signed w64 y.0), y.1)) ≡ Ok x → IsRead value_bytes IsValue (kind ∷ bytes) x
unfolding value_bytes
whole_read kind is bytes x are e =
    let b = bind_ok (number_at 8 bytes) (λ y. Ok (Whole (cast_signed w64 y.0), y.1)) x e in
    let number = (number_exact 8).told bytes b.0 are b.1 in
    let same : be 8 (cast_unsigned w64 (cast_signed w64 b.0.0)) ≡ be 8 b.0.0 = ap (be 8) (of_z-to_z w64 b.0.0 number.such) in
    subst (IsRead value_bytes IsValue (kind ∷ bytes)) (ok_is RecordFault (Whole (cast_signed w64 b.0.0), b.0.1) x b.2)
    (record {
      whole = ap (λ (l : List ℕ). kind ∷ l) number.whole ∙ rw (is, same) refl;
      such = whole_fits b.0.0 number.such;
    })

value_read : (kind : ℕ) (bytes : List ℕ) (x : Value × List ℕ) → AreBytes bytes → value_of kind bytes ≡ Ok x → IsRead value_bytes IsValue (kind ∷ bytes) x
unfolding value_of value_bytes point_value_at
value_read kind bytes x are e =
    let P = IsRead value_bytes IsValue (kind ∷ bytes) x in
    kinds P kind 0 _ _ x e (λ is e. alone value_bytes IsValue kind 0 is Null refl tt bytes x e) λ e.
    kinds P kind 1 _ _ x e (λ is e. wrapped text_at text_bytes IsUtf8 Words value_bytes IsValue text_exact kind 1 is (λ a. refl) (λ a h. h) bytes x are e) λ e.
    kinds P kind 2 _ _ x e (λ is e. whole_read kind is bytes x are e) λ e.
    kinds P kind 3 _ _ x e (λ is e. wrapped truth_at truth_bytes (λ b. ⊤) Truth value_bytes IsValue truth_exact kind 3 is (λ a. refl) (λ a h. h) bytes x are e) λ e.
    kinds P kind 4 _ _ x e (λ is e. wrapped point_at point_bytes IsPosition (λ p. Shape (At p)) value_bytes IsValue point_exact kind 4 is (λ a. refl) (λ a h. h) bytes x are e) λ e.
    kinds P kind 5 _ _ x e (λ is e. wrapped line_at path_bytes IsLineOf (λ line. Shape (Along line)) value_bytes IsValue line_exact kind 5 is (λ a. refl) (λ a h. h) bytes x are e) λ e.
    kinds P kind 6 _ _ x e (λ is e. wrapped area_at area_bytes IsAreaOf (λ area. Shape (Over area)) value_bytes IsValue area_exact kind 6 is (λ a. refl) (λ a h. h) bytes x are e) λ e.
    absurd cc

value_exact : IsExact value_at value_bytes IsValue
unfolding value_at
value_exact = record { told = behind_kind value_of value_bytes IsValue value_read }

-- ---- parts

id_exact : IsExact id_at id_bytes (λ id. (id.kind ≤ 65_535) × IsId id)
unfolding id_at id_bytes
id_exact = record {
  told = paired (number_at 2) (number_at 8) (be 2) (be 8) (λ n. n < 256 ^ 2) (λ n. n < 256 ^ 8) (λ kind number. record { kind = kind; number = number }) id_bytes (λ id. (id.kind ≤ 65_535) × IsId id) (number_exact 2) (number_exact 8) [] (λ a b. refl)
      (λ a b short long. (omega arith, omega arith));
}

values_exact : IsExact (counted_at 2 value_at) (counted 2 value_bytes) (λ values. (length values < 256 ^ 2) × All IsValue values)
values_exact = counted_exact value_at value_bytes IsValue 2 value_exact

part_read : (kind : ℕ) (bytes : List ℕ) (x : Part × List ℕ) → AreBytes bytes → part_of kind bytes ≡ Ok x → IsRead part_bytes (λ p. IsShort p × IsPart p) (kind ∷ bytes) x
unfolding part_of part_bytes put_at remove_at
part_read kind bytes x are e =
    let P = IsRead part_bytes (λ p. IsShort p × IsPart p) (kind ∷ bytes) x in
    kinds P kind 1 _ _ x e (λ is e.
    subst (λ (n : ℕ). IsRead part_bytes (λ p. IsShort p × IsPart p) (n ∷ bytes) x) (sym is)
    (paired id_at (counted_at 2 value_at) id_bytes (counted 2 value_bytes) (λ id. (id.kind ≤ 65_535) × IsId id) (λ values. (length values < 256 ^ 2) × All IsValue values) (λ id values. Put (record { id = id; values = values })) part_bytes (λ p. IsShort p × IsPart p) id_exact values_exact (1 ∷ []) (λ a b. refl)
    (λ a b p q. let few = q.0 in ((p.0, omega arith), (p.1, q.1))) bytes x are e)) λ e.
    kinds P kind 2 _ _ x e (λ is e. wrapped id_at id_bytes (λ id. (id.kind ≤ 65_535) × IsId id) Remove part_bytes (λ p. IsShort p × IsPart p) id_exact kind 2 is (λ a. refl) (λ a h. h) bytes x are e) λ e.
    absurd cc

part_exact : IsExact part_at part_bytes (λ p. IsShort p × IsPart p)
unfolding part_at
part_exact = record { told = behind_kind part_of part_bytes (λ p. IsShort p × IsPart p) part_read }

-- ---- stored queries

names_exact : IsExact (counted_at 4 text_at) (counted 4 text_bytes) (λ names. (length names < 256 ^ 4) × All IsUtf8 names)
names_exact = counted_exact text_at text_bytes IsUtf8 4 text_exact

four_joined : (a b c d bytes behind_a behind_b behind_c behind_d : List ℕ) → bytes ≡ a ++ behind_a → behind_a ≡ b ++ behind_b → behind_b ≡ c ++ behind_c → behind_c ≡ d ++ behind_d → bytes ≡ a ++ b ++ c ++ d ++ behind_d
four_joined a b c d bytes behind_a behind_b behind_c behind_d a_is b_is c_is d_is = rw (a_is, b_is, c_is, d_is) (simp append_assoc)

stored_exact : IsExact stored_at stored_bytes IsStored
unfolding stored_at stored_bytes
stored_exact = record {
  told = λ bytes x are e.
      let a = bind_ok (text_at bytes) _ x e in
      let id = text_exact.told bytes a.0 are a.1 in
      let a_are = behind (text_bytes a.0.0) a.0.1 bytes id.whole are in
      let b = bind_ok (text_at a.0.1) _ x a.2 in
      let title = text_exact.told a.0.1 b.0 a_are b.1 in
      let b_are = behind (text_bytes b.0.0) b.0.1 a.0.1 title.whole a_are in
      let c = bind_ok (counted_at 4 text_at b.0.1) _ x b.2 in
      let names = names_exact.told b.0.1 c.0 b_are c.1 in
      let c_are = behind (counted 4 text_bytes c.0.0) c.0.1 b.0.1 names.whole b_are in
      let d = bind_ok (text_at c.0.1) _ x c.2 in
      let text = text_exact.told c.0.1 d.0 c_are d.1 in
      let found : StoredQuery × List ℕ = (record { id = a.0.0; title = b.0.0; parameters = c.0.0; queries = []; text = d.0.0 }, d.0.1) in
      subst (IsRead stored_bytes IsStored bytes) {x = found} (ok_is RecordFault found x d.2)
      (record {
        whole = four_joined (text_bytes a.0.0) (text_bytes b.0.0) (counted 4 text_bytes c.0.0) (text_bytes d.0.0) bytes a.0.1 b.0.1 c.0.1 d.0.1 id.whole title.whole names.whole text.whole;
        such = record { id = id.such; title = title.such; parameters = names.such.1; text = text.such };
      });
}

-- ---- changes

-- what a change is that may be put
abbrev IsPuttable : Recorded → Type 0
IsPuttable r = AreShort r.change × IsWritable r.change (text_or_empty r.signature)

change_read : (kind : ℕ) (bytes : List ℕ) (x : Recorded × List ℕ) → AreBytes bytes → change_of kind bytes ≡ Ok x → IsRead spelling_of IsPuttable (kind ∷ bytes) x
unfolding change_of body_of opening_at base_at
change_read kind bytes x are e =
    let P = IsRead spelling_of IsPuttable (kind ∷ bytes) x in
    kinds P kind 1 _ _ x e (λ is e.
    subst (λ (n : ℕ). IsRead spelling_of IsPuttable (n ∷ bytes) x) (sym is)
    (paired counter_at text_at counter_bytes text_bytes IsCounter IsUtf8 (λ number signature. record { change = Opening number; signature = Some signature }) spelling_of IsPuttable counter_exact text_exact (1 ∷ []) (λ a b. refl)
    (λ a b p q. (tt, (p, q))) bytes x are e)) λ e.
    kinds P kind 2 _ _ x e (λ is e. wrapped (counted_at 4 part_at) (counted 4 part_bytes) (λ parts. (length parts < 256 ^ 4) × All (λ p. IsShort p × IsPart p) parts) (λ parts. plain (Rows parts)) spelling_of IsPuttable (counted_exact part_at part_bytes (λ p. IsShort p × IsPart p) 4 part_exact) kind 2 is (λ a. refl)
    (λ parts h. (λ k d lt. (h.1 k d lt).0, λ k d lt. (h.1 k d lt).1)) bytes x are e) λ e.
    kinds P kind 3 _ _ x e (λ is e. wrapped (counted_at 4 stored_at) (counted 4 stored_bytes) (λ queries. (length queries < 256 ^ 4) × All IsStored queries) (λ queries. plain (Created queries)) spelling_of IsPuttable (counted_exact stored_at stored_bytes IsStored 4 stored_exact) kind 3 is (λ a. refl) (λ queries h. (tt, h.1)) bytes x are e) λ e.
    kinds P kind 4 _ _ x e (λ is e. wrapped text_at text_bytes IsUtf8 (λ id. plain (Dropped id)) spelling_of IsPuttable text_exact kind 4 is (λ a. refl) (λ id h. (tt, h)) bytes x are e) λ e.
    kinds P kind 5 _ _ x e (λ is e.
    subst (λ (n : ℕ). IsRead spelling_of IsPuttable (n ∷ bytes) x) (sym is)
    (paired counter_at (counted_at 2 counter_at) counter_bytes (counted 2 counter_bytes) IsCounter (λ counters. (length counters < 256 ^ 2) × All IsCounter counters) (λ opening counters. plain (Base opening counters)) spelling_of IsPuttable counter_exact (counted_exact counter_at counter_bytes IsCounter 2 counter_exact) (5 ∷ []) (λ a b. refl)
    (λ a b p q. let few = q.0 in (omega arith, (p, q.1))) bytes x are e)) λ e.
    absurd cc

ended_is : (recorded : Recorded) (rest : List ℕ) (x : Recorded) → ended recorded rest ≡ Ok x → (recorded ≡ x) × (rest ≡ [])
unfolding ended
ended_is recorded [] x e = (ok_is RecordFault recorded x e, refl)
ended_is recorded (b ∷ rest) x e = absurd cc

pub one_spelling : HasOneSpelling
unfolding record_of
one_spelling bytes recorded are e =
    let a = bind_ok (first_of bytes) (λ kind. change_of kind.0 kind.1 >>= λ found. ended found.0 found.1) recorded e in
    let kind = first_whole bytes a.0 a.1 in
    let b = bind_ok (change_of a.0.0 a.0.1) (λ found. ended found.0 found.1) recorded a.2 in
    let found = change_read a.0.0 a.0.1 b.0 (behind (a.0.0 ∷ []) a.0.1 bytes kind are) b.1 in
    let end = ended_is b.0.0 b.0.1 recorded b.2 in
    let such = subst IsPuttable end.0 found.such in
    record {
      spelling = sym (kind ∙ found.whole ∙ rw (end.0, end.1) (append-nil (spelling_of recorded)));
      short = such.0;
      writable = such.1;
    }

no_more : (rest : List ℕ) → length rest < 1 → rest ≡ []
no_more [] less = refl
no_more (b ∷ rest) less = absurd (omega arith)

-- the bytes of a slice, of which a kind, a change and nothing more was read
pub read_whole : (bytes : List ℕ) (kind : ℕ) (behind_kind rest : List ℕ) (recorded : Recorded) → ((i : ℕ) → get_or bytes i 0 < 256) → first_of bytes ≡ Ok (kind, behind_kind) → change_of kind behind_kind ≡ Ok (recorded, rest) → length rest < 1 → IsSpelledBy recorded bytes
unfolding record_of ended
read_whole bytes kind behind_kind rest recorded small first found less =
    one_spelling bytes recorded (All-from_get_or (λ b. b < 256) bytes 0 (λ i lt. small i)) (rw (first, found, no_more rest less) refl)
