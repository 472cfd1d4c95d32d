-- What is read was written so: lists, texts and shapes.
use Rattle.std.proofs.Common.{◌≡◌, ℕ, zero, suc, ◌-◌, ◌^◌, ◌<◌, ◌≤◌, false, List, [], ◌∷◌, ◌++◌, length, take, drop, Result, Ok, Err, ℤ, refl, sym, ap, ◌∙◌, subst, arith, append_assoc}
use Rattle.std.specs.Prelude.{All, nat_lt, ◌==◌}
use Rattle.std.specs.Int.{w32, cast_unsigned}
use Rattle.std.specs.List.{flat_map}
use Rattle.std.specs.Str.{IsUtf8, is_utf8}
use Rattle.std.proofs.lemmas.Bool.Decides.{nat_tests}
use Rattle.std.proofs.lemmas.Int.{of_z-to_z}
use Rattle.std.proofs.lemmas.List.{append-nil, drop_at, take-append-drop, length-take-le}
use Rattle.std.proofs.lemmas.List.Elements.{All-drop, All-nil, All-cons}
use Rattle.std.proofs.lemmas.Str.{IsUtf8-from_is_utf8}
use Rattle.geom_core.specs.Plane.{Point, IsPosition, Area}
use Rattle.geom_core.specs.declared.fault.GeomFault.{GeomFault}
use Rattle.geom_core.specs.Shapes.{IsLine, IsRing, IsPolygon, position_of, line_of, ring_of, polygon_of}
use Rattle.geom_core.specs.Valid.{IsLineOf, IsRingOf, IsAreaOf}
use Rattle.geom_core.proofs.Valid.{without, position_gives, line_gives, ring_gives, area_gives}
use Rattle.wfs_ends.specs.Read.{◌>>=◌}
use Rattle.wfs_ends.proofs.Turns.{bind_ok, if_ok, ok_is}
use Rattle.journal_format.specs.declared.fault.RecordFault.{RecordFault}
use Rattle.journal_format.specs.declared.fault.RecordFault.TheVariants.{Cut, Kind}
use Rattle.journal_format.specs.Numbers.{AreBytes, Reads, be, number_at}
use Rattle.journal_format.specs.Reading.{times, counted_at, words_of, words_at, text_at, shaped, pair_at, point_at, line_at, ring_at, rings_at, area_at}
use Rattle.journal_format.specs.Spelling.{text_bytes, counted, point_bytes, path_bytes, area_bytes}
use Rattle.journal_format.proofs.Digits.{number_exact}
use Rattle.journal_format.proofs.Words.{IsRead, IsExact}

-- what stands behind bytes is bytes
pub behind : (front rest bytes : List ℕ) → bytes ≡ front ++ rest → AreBytes bytes → AreBytes rest
behind front rest bytes is are = subst AreBytes (ap (drop (length front)) is ∙ drop_at front rest (length front) refl) (All-drop (λ b. b < 256) (length front) bytes are)

not_short : (m n : ℕ) → nat_lt m n ≡ false → n ≤ m
not_short m n e = grind arith

-- ---- lists

module _ {A : Type 0} (read : List ℕ → Reads A) (spelling : A → List ℕ) (Such : A → Type 0) where
  -- so many things, read one behind the other
  pub record TimesRead (n : ℕ) (found : List A) (bytes : List ℕ) (x : List A × List ℕ) : Type 0 where
    pub more : List A
    pub is : x.0 ≡ found ++ more
    pub count : length more ≡ n
    pub whole : bytes ≡ flat_map spelling more ++ x.1
    pub such : All Such more

  one_more : (n : ℕ) (found : List A) (bytes : List ℕ) (y : A × List ℕ) (x : List A × List ℕ) → IsRead spelling Such bytes y → TimesRead n (found ++ y.0 ∷ []) y.1 x → TimesRead (suc n) found bytes x
  one_more n found bytes y x first rest = record {
    more = y.0 ∷ rest.more;
    is = rest.is ∙ append_assoc found (y.0 ∷ []) rest.more;
    count = ap suc rest.count;
    whole = first.whole ∙ ap (λ (l : List ℕ). spelling y.0 ++ l) rest.whole ∙ sym (append_assoc (spelling y.0) (flat_map spelling rest.more) x.1);
    such = All-cons Such y.0 rest.more first.such rest.such;
  }

  times_read : IsExact read spelling Such → (n : ℕ) (found : List A) (bytes : List ℕ) (x : List A × List ℕ) → AreBytes bytes → times read n found bytes ≡ Ok x → TimesRead n found bytes x
  unfolding times
  times_read exact zero found bytes x are e =
      let is = ok_is RecordFault _ _ e in
      record { more = []; is = sym (ap (λ y. y.0) is) ∙ sym (append-nil found); count = refl; whole = ap (λ y. y.1) is; such = All-nil Such }
  times_read exact (suc n) found bytes x are e =
      let b = bind_ok (read bytes) (λ y. times read n (found ++ y.0 ∷ []) y.1) x e in
      let first = exact.told bytes b.0 are b.1 in
      one_more n found bytes b.0 x first (times_read exact n (found ++ b.0.0 ∷ []) b.0.1 x (behind (spelling b.0.0) b.0.1 bytes first.whole are) b.2)

  pub times_exact : (n : ℕ) → IsExact read spelling Such → IsExact (times read n []) (flat_map spelling) (λ xs. (length xs ≡ n) × All Such xs)
  times_exact n exact = record {
    told = λ bytes x are e.
        let all = times_read exact n [] bytes x are e in
        record { whole = all.whole ∙ ap (λ (l : List A). flat_map spelling l ++ x.1) (sym all.is); such = (ap length all.is ∙ all.count, subst (All Such) (sym all.is) all.such) };
  }

  pub counted_exact : (n : ℕ) → IsExact read spelling Such → IsExact (counted_at n read) (counted n spelling) (λ xs. (length xs < 256 ^ n) × All Such xs)
  unfolding counted_at counted
  counted_exact n exact = record {
    told = λ bytes x are e.
        let b = bind_ok (number_at n bytes) (λ count. times read count.0 [] count.1) x e in
        let number = (number_exact n).told bytes b.0 are b.1 in
        let all = (times_exact b.0.0 exact).told b.0.1 x (behind (be n b.0.0) b.0.1 bytes number.whole are) b.2 in
        record {
          whole = number.whole ∙ rw (sym all.such.0, all.whole) (sym (append_assoc (be n (length x.0)) (flat_map spelling x.0) x.1));
          such = (rw all.such.0 number.such, all.such.1);
        };
  }

-- ---- texts

-- a text that was read of so many bytes
record WordsRead (n : ℕ) (bytes : List ℕ) (x : List ℕ × List ℕ) : Type 0 where
  pub whole : bytes ≡ x.0 ++ x.1
  pub count : length x.0 ≡ n
  pub utf8 : IsUtf8 x.0

words_read : (n : ℕ) (bytes : List ℕ) (x : List ℕ × List ℕ) → words_at n bytes ≡ Ok x → WordsRead n bytes x
unfolding words_at words_of
words_read n bytes x e =
    let long = without (nat_lt (length bytes) n) _ Cut x e in
    let le : n ≤ length bytes = not_short (length bytes) n long.0 in
    let b = bind_ok (words_of (take n bytes)) (λ text. Ok (text, drop n bytes)) x long.1 in
    let utf8 = if_ok (is_utf8 (take n bytes)) (Ok (take n bytes)) Kind b.0 b.1 in
    let is = ok_is RecordFault _ _ b.2 in
    let front : take n bytes ≡ x.0 = ok_is RecordFault _ _ utf8.1 ∙ ap (λ y. y.0) is in
    let rest : drop n bytes ≡ x.1 = ap (λ y. y.1) is in
    record {
      whole = sym (take-append-drop n bytes) ∙ rw (front, rest) refl;
      count = sym (ap length front) ∙ length-take-le n bytes le;
      utf8 = subst IsUtf8 front (IsUtf8-from_is_utf8 (take n bytes) utf8.0);
    }

pub text_exact : IsExact text_at text_bytes IsUtf8
unfolding text_at text_bytes
text_exact = record {
  told = λ bytes x are e.
      let b = bind_ok (number_at 4 bytes) (λ size. words_at size.0 size.1) x e in
      let number = (number_exact 4).told bytes b.0 are b.1 in
      let words = words_read b.0.0 b.0.1 x b.2 in
      record { whole = number.whole ∙ rw (sym words.count, words.whole) (sym (append_assoc (be 4 (length x.0)) x.0 x.1)); such = words.utf8 };
}

-- ---- positions

shaped_is : {A : Type 0} (r : Result A GeomFault) (rest : List ℕ) (x : A × List ℕ) → shaped r rest ≡ Ok x → (r ≡ Ok x.0) × (rest ≡ x.1)
unfolding shaped
shaped_is (Ok shape) rest x e = let is = ok_is RecordFault _ _ e in (ap (λ y. Ok y.0) is, ap (λ y. y.1) is)
shaped_is (Err fault) rest x e = absurd cc

pair_whole : (bytes : List ℕ) (x : (ℤ × ℤ) × List ℕ) → AreBytes bytes → pair_at bytes ≡ Ok x → bytes ≡ (be 4 (cast_unsigned w32 x.0.0) ++ be 4 (cast_unsigned w32 x.0.1)) ++ x.1
unfolding pair_at
pair_whole bytes x are e =
    let a = bind_ok (number_at 4 bytes) _ x e in
    let first = (number_exact 4).told bytes a.0 are a.1 in
    let b = bind_ok (number_at 4 a.0.1) _ x a.2 in
    let second = (number_exact 4).told a.0.1 b.0 (behind (be 4 a.0.0) a.0.1 bytes first.whole are) b.1 in
    let is = ok_is RecordFault _ _ b.2 in
    let one : cast_unsigned w32 x.0.0 ≡ a.0.0 = sym (ap (λ y. cast_unsigned w32 y.0.0) is) ∙ of_z-to_z w32 a.0.0 first.such in
    let two : cast_unsigned w32 x.0.1 ≡ b.0.0 = sym (ap (λ y. cast_unsigned w32 y.0.1) is) ∙ of_z-to_z w32 b.0.0 second.such in
    let rest : b.0.1 ≡ x.1 = ap (λ y. y.1) is in
    first.whole ∙ rw (second.whole, one, two, rest) (sym (append_assoc (be 4 a.0.0) (be 4 b.0.0) x.1))

pub point_exact : IsExact point_at point_bytes IsPosition
unfolding point_at point_bytes
point_exact = record {
  told = λ bytes x are e.
      let b = bind_ok (pair_at bytes) (λ pair. shaped (position_of pair.0.0 pair.0.1) pair.1) x e in
      let pair = pair_whole bytes b.0 are b.1 in
      let shape = shaped_is (position_of b.0.0.0 b.0.0.1) b.0.1 x b.2 in
      let same = position_gives b.0.0.0 b.0.0.1 x.0 shape.0 in
      record { whole = pair ∙ rw (same.0, same.1, shape.1) refl; such = same.2 };
}

-- ---- paths

module _ (shape_of : List Point → Result (List Point) GeomFault) (Such : List Point → Type 0) where
  path_read : ((ps path : List Point) → shape_of ps ≡ Ok path → (ps ≡ path) × Such path) → (bytes : List ℕ) (x : List Point × List ℕ) → AreBytes bytes → (counted_at 4 point_at bytes >>= λ points. shaped (shape_of points.0) points.1) ≡ Ok x → IsRead path_bytes (λ path. Such path × All IsPosition path) bytes x
  unfolding path_bytes
  path_read gives bytes x are e =
      let b = bind_ok (counted_at 4 point_at bytes) (λ points. shaped (shape_of points.0) points.1) x e in
      let points = (counted_exact point_at point_bytes IsPosition 4 point_exact).told bytes b.0 are b.1 in
      let shape = shaped_is (shape_of b.0.0) b.0.1 x b.2 in
      let same = gives b.0.0 x.0 shape.0 in
      record { whole = points.whole ∙ rw (same.0, shape.1) refl; such = (same.1, subst (All IsPosition) same.0 points.such.1) }

pub line_exact : IsExact line_at path_bytes IsLineOf
unfolding line_at
line_exact = record {
  told = λ bytes x are e.
      let r = path_read line_of IsLine line_gives bytes x are e in
      record { whole = r.whole; such = record { line = r.such.0; positions = r.such.1 } };
}

pub ring_exact : IsExact ring_at path_bytes IsRingOf
unfolding ring_at
ring_exact = record {
  told = λ bytes x are e.
      let r = path_read ring_of IsRing ring_gives bytes x are e in
      record { whole = r.whole; such = record { ring = r.such.0; positions = r.such.1 } };
}

-- ---- polygons

above_zero : (n : ℕ) → (n == 0) ≡ false → 0 < n
above_zero n e = grind (arith, nat_tests)

-- the rings of a polygon, by the bytes that they were read of
record RingsRead (n : ℕ) (bytes : List ℕ) (x : Area × List ℕ) : Type 0 where
  pub whole : bytes ≡ flat_map path_bytes (x.0.shell ∷ x.0.holes) ++ x.1
  pub count : length (x.0.shell ∷ x.0.holes) ≡ n
  pub such : IsAreaOf x.0

rings_joined : (n : ℕ) (shell : List Point) (holes : List (List Point)) (bytes behind_shell behind_holes : List ℕ) (x : Area × List ℕ) → 0 < n → IsRead path_bytes IsRingOf bytes (shell, behind_shell) → IsRead (flat_map path_bytes) (λ xs. (length xs ≡ n - 1) × All IsRingOf xs) behind_shell (holes, behind_holes) → (shell ≡ x.0.shell) × (holes ≡ x.0.holes) × IsPolygon x.0.shell x.0.holes → behind_holes ≡ x.1 → RingsRead n bytes x
rings_joined n shell holes bytes behind_shell behind_holes x some first others same last =
    let few : length x.0.holes ≡ n - 1 = sym (ap length same.1) ∙ others.such.0 in
    record {
      whole = first.whole ∙ rw (others.whole, same.0, same.1, last) (sym (append_assoc (path_bytes x.0.shell) (flat_map path_bytes x.0.holes) x.1));
      count = omega (arith, few);
      such = record { area = same.2; shell = subst IsRingOf same.0 first.such; holes = subst (All IsRingOf) same.1 others.such.1 };
    }

rings_read : (n : ℕ) (bytes : List ℕ) (x : Area × List ℕ) → AreBytes bytes → rings_at n bytes ≡ Ok x → RingsRead n bytes x
unfolding rings_at
rings_read n bytes x are e =
    let some = without (n == 0) _ Kind x e in
    let b = bind_ok (ring_at bytes) (λ shell. times ring_at (n - 1) [] shell.1 >>= λ holes. shaped (polygon_of shell.0 holes.0) holes.1) x some.1 in
    let shell = ring_exact.told bytes b.0 are b.1 in
    let c = bind_ok (times ring_at (n - 1) [] b.0.1) (λ holes. shaped (polygon_of b.0.0 holes.0) holes.1) x b.2 in
    let holes = (times_exact ring_at path_bytes IsRingOf (n - 1) ring_exact).told b.0.1 c.0 (behind (path_bytes b.0.0) b.0.1 bytes shell.whole are) c.1 in
    let shape = shaped_is (polygon_of b.0.0 c.0.0) c.0.1 x c.2 in
    rings_joined n b.0.0 c.0.0 bytes b.0.1 c.0.1 x (above_zero n some.0) shell holes (area_gives b.0.0 c.0.0 x.0 shape.0) shape.1

pub area_exact : IsExact area_at area_bytes IsAreaOf
unfolding area_at area_bytes counted
area_exact = record {
  told = λ bytes x are e.
      let b = bind_ok (number_at 4 bytes) (λ count. rings_at count.0 count.1) x e in
      let number = (number_exact 4).told bytes b.0 are b.1 in
      let rings = rings_read b.0.0 b.0.1 x (behind (be 4 b.0.0) b.0.1 bytes number.whole are) b.2 in
      record { whole = number.whole ∙ rw (sym rings.count, rings.whole) (sym (append_assoc (be 4 (length (x.0.shell ∷ x.0.holes))) (flat_map path_bytes (x.0.shell ∷ x.0.holes)) x.1)); such = rings.such };
}
