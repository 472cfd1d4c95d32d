-- Counting days from 1970 on leads to the date that the calendar has.
use Rattle.std.proofs.Common.{◌≡◌, ℕ, zero, suc, ◌+◌, ◌-◌, ◌*◌, ◌/◌, ◌%◌, ◌<◌, ◌≤◌, Bool, true, false, nat_lt, refl, sym, ap, ◌∙◌, inl, inr, arith, ℤ, pos, negsuc, ◌-ℤ◌, unsigned_abs, cond, subst}
use Rattle.std.proofs.lemmas.Bool.{cases_lt}
use Rattle.std.proofs.lemmas.Bool.Decides.{nat_tests}
use Rattle.jiff.proofs.SpanFacts.{signed_arith}
use Rattle.jiff_core.specs.Calendar.{day_count, days_from_civil, days_of_months, IsCivilDate}
use Rattle.jiff_core.proofs.CalendarLemmas.{day_count-next_year, day_count-later_year, days_of_months_more, days_of_months_mono, days_of_months-zero, day_count-day_of_year, day_count-epoch, day_count-lt_year, day_of_year_bound}
use Rattle.jiff_core.specs.declared.civil.date.Date.{Date}
use Rattle.jiff_core.specs.Date.{epoch_day}
use Rattle.jiff_core.proofs.DateLemmas.{civil}
use Rattle.jiff_core.specs.declared.civil.datetime.DateTime.{DateTime}
use Rattle.jiff_core.specs.DateTime.{civil_nanos}
use Rattle.jiff_core.specs.Time.{time_nanos}
use Rattle.jiff_core.proofs.DateTimeLemmas.{civil_nanos-parts, time_nanos_bound}
use Rattle.civil_time.specs.declared.moment.Civil.{Civil}
use Rattle.civil_time.specs.Civil.{civil_of, year_days, month_days, year_at, month_at, date_of}

-- the first of January, and of the month, as the calendar counts
abbrev pub start : ℕ → ℕ
start y = day_count (pos y) 1 1

pub start-next : (y : ℕ) → start (y + 1) ≡ start y + year_days y
start-next y = day_count-next_year (pos y) (pos (y + 1)) (omega (arith, signed_arith)) refl

pub start-later : (y t : ℕ) → y < t → start y + year_days y ≤ start t
start-later y t lt = day_count-later_year (pos y) (pos t) (omega (arith, signed_arith)) (omega (arith, signed_arith))

chosen_yes : {A : Type 0} {b : Bool} (x y : A) → b ≡ true → (cond b x y) ≡ x
chosen_yes x y e = rw e refl

chosen_no : {A : Type 0} {b : Bool} (x y : A) → b ≡ false → (cond b x y) ≡ y
chosen_no x y e = rw e refl

fits : (days n : ℕ) → days < n → nat_lt days n ≡ true
fits days n lt = grind (arith, nat_tests)

passes : (days n : ℕ) → n ≤ days → nat_lt days n ≡ false
passes days n le = grind (arith, nat_tests)

pub year_at-is : (n y t days : ℕ) → y ≤ t → t ≤ y + n → start t ≤ start y + days → start y + days < start t + year_days t → year_at n y days ≡ (t, start y + days - start t)
unfolding year_at
year_at-is zero y t days low high from to =
    let same : y ≡ t = omega arith in
    rw (← same) (ap (λ k. (y, k)) (omega arith))
year_at-is (suc n) y t days low high from to =
    elim (cases_lt y t) [
      | inl lt ↦
          let later = start-later y t lt in
          let next = start-next y in
          chosen_no _ _ (passes days (year_days y) (omega arith))
          ∙ year_at-is n (y + 1) t (days - year_days y) (omega arith) (omega arith) (omega arith) (omega arith) ∙ ap (λ k. (t, k)) (omega arith)
      | inr ge ↦
          let same : t ≡ y = omega arith in
          let to' : start y + days < start y + year_days y = subst (λ k. start y + days < start k + year_days k) same to in
          chosen_yes _ _ (fits days (year_days y) (omega arith))
          ∙ subst (λ k. ◌≡◌ {A = ℕ × ℕ} (y, days) (k, start y + days - start k)) (sym same) (ap (λ k. (y, k)) (omega arith))
    ]

abbrev pub before : ℕ → ℕ → ℕ
before y m = days_of_months (pos y) (m - 1)

pub before-next : (y m : ℕ) → 1 ≤ m → before y (m + 1) ≡ before y m + month_days y m
before-next y m some = let k : m + 1 - 1 ≡ m = omega arith in rw k (days_of_months_more (pos y) m some)

pub before-later : (y m t : ℕ) → 1 ≤ m → m < t → before y m + month_days y m ≤ before y t
before-later y m t some lt = rw (← before-next y m some) (days_of_months_mono (pos y) (m + 1 - 1) (t - 1) (omega arith))

pub month_at-is : (n y m t days : ℕ) → 1 ≤ m → m ≤ t → t ≤ m + n → before y t ≤ before y m + days → before y m + days < before y t + month_days y t → month_at n y m days ≡ (t, before y m + days - before y t)
unfolding month_at
month_at-is zero y m t days some low high from to =
    let same : m ≡ t = omega arith in
    rw (← same) (ap (λ k. (m, k)) (omega arith))
month_at-is (suc n) y m t days some low high from to =
    elim (cases_lt m t) [
      | inl lt ↦
          let later = before-later y m t some lt in
          let next = before-next y m some in
          chosen_no _ _ (passes days (month_days y m) (omega arith))
          ∙ month_at-is n y (m + 1) t (days - month_days y m) (omega arith) (omega arith) (omega arith) (omega arith) (omega arith) ∙ ap (λ k. (t, k)) (omega arith)
      | inr ge ↦
          let same : t ≡ m = omega arith in
          let to' : before y m + days < before y m + month_days y m = subst (λ k. before y m + days < before y k + month_days y k) same to in
          chosen_yes _ _ (fits days (month_days y m) (omega arith))
          ∙ subst (λ k. ◌≡◌ {A = ℕ × ℕ} (m, days) (k, before y m + days - before y k)) (sym same) (ap (λ k. (m, k)) (omega arith))
    ]

-- the calendar's own words at a date: its day number, with the first day of 1970 as 0
count_is : (d : Date) (y day : ℕ) → d.year ≡ pos y → epoch_day d ≡ pos day → (day_count (pos y) d.month d.day ≡ 4_371_953 + day) × IsCivilDate (pos y) d.month d.day
unfolding days_from_civil
count_is d y day ye de =
    let cd : IsCivilDate (pos y) d.month d.day = subst (λ k. IsCivilDate k d.month d.day) ye (civil d) in
    let e : pos (day_count (pos y) d.month d.day) -ℤ pos (day_count (pos 1970) 1 1) ≡ pos day = subst (λ k. pos (day_count k d.month d.day) -ℤ pos (day_count (pos 1970) 1 1) ≡ pos day) ye de in
    let f = day_count-epoch in
    (omega (arith, signed_arith, e, f), cd)

-- a day number and the date that has it
pub date_is : (d : Date) (y day : ℕ) → d.year ≡ pos y → epoch_day d ≡ pos day → date_of day ≡ (y, d.month, d.day)
unfolding date_of
date_is d y day ye de =
    let (n, cd) = count_is d y day ye de in
    let high : y ≤ 9999 = omega (arith, signed_arith, cd.0) in
    let parts = day_count-day_of_year (pos y) d.month d.day cd.2.0 in
    let within = day_of_year_bound (pos y) d.month d.day cd in
    let epoch : start 1970 ≡ 4_371_953 = day_count-epoch in
    let none = days_of_months-zero (pos y) in
    let low : 1970 ≤ y = elim (cases_lt y 1970) [
      | inl lt ↦ let early = day_count-lt_year (pos y) d.month d.day (pos 1970) 1 1 cd (omega arith) (omega (arith, signed_arith)) in omega arith
      | inr ge ↦ ge
    ] in
    let left = start 1970 + day - start y in
    let year : year_at 8100 1970 day ≡ (y, left) = year_at-is 8100 1970 y day low (omega arith) (omega arith) (omega arith) in
    let month : month_at 11 y 1 left ≡ (d.month, before y 1 + left - before y d.month) =
    month_at-is 11 y 1 d.month left (omega arith) cd.1.0 (omega (arith, cd.1.1)) (omega arith) (omega (arith, cd.2.1)) in
    rw (year, month) (ap (λ k. (y, d.month, k)) (omega (arith, cd.2.0)))

-- a day from 1970 on lies in no year before 0
no_negative : (y : ℤ) (m d day : ℕ) → IsCivilDate y m d → days_from_civil y m d ≡ pos day → y ≡ pos (unsigned_abs y)
unfolding days_from_civil
no_negative (pos n) m d day cd de = refl
no_negative (negsuc n) m d day cd de =
    let early = day_count-lt_year (negsuc n) m d (pos 1970) 1 1 cd (omega arith) (omega (arith, signed_arith)) in
    absurd (omega (arith, signed_arith, de, early))

-- the parts of a date and time that a clock shows so many seconds after 1970
pub civil_is : (dt : DateTime) (s : ℕ) → civil_nanos dt ≡ pos (s * 1_000_000_000) → ◌≡◌ {A = Civil} (record {
  year = unsigned_abs dt.date.year;
  month = dt.date.month;
  day = dt.date.day;
  hour = dt.time.hour;
  minute = dt.time.minute;
  second = dt.time.second;
}) (civil_of s)
civil_is dt s is =
    let parts = civil_nanos-parts dt in
    let bound = time_nanos_bound dt.time in
    let day : epoch_day dt.date ≡ pos (s / 86400) = omega (arith, signed_arith, is, parts, bound) in
    let time : time_nanos dt.time ≡ s % 86400 * 1_000_000_000 = omega (arith, signed_arith, is, parts, bound, day) in
    let year : dt.date.year ≡ pos (unsigned_abs dt.date.year) = no_negative dt.date.year dt.date.month dt.date.day (s / 86400) (civil dt.date) day in
    let date = date_is dt.date (unsigned_abs dt.date.year) (s / 86400) year day in
    let hour : dt.time.hour ≡ s % 86400 / 3600 = omega (arith, time) in
    let minute : dt.time.minute ≡ s % 3600 / 60 = omega (arith, time) in
    let second : dt.time.second ≡ s % 60 = omega (arith, time) in
    rw (date, hour, minute, second) refl
