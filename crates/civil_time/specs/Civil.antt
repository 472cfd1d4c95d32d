-- The date and time that a clock of UTC shows at a moment, by counting days in the Gregorian calendar from 1970 on
-- (ISO 8601), and how it is written (RFC 3339, section 5.6). A day has 86,400 seconds.
use Rattle.std.specs.Prelude.{ℕ, zero, suc, ◌+◌, ◌-◌, ◌/◌, ◌%◌, ◌==◌, ◌&&◌, ◌||◌, not, nat_lt, Bool, if◌then◌else◌, List, [], ◌∷◌, ◌++◌, min}
use Rattle.civil_time.specs.declared.moment.Civil.{Civil}

-- every fourth year, but of the centuries only every fourth
abbrev pub is_leap : ℕ → Bool
is_leap y = (y % 4 == 0) && (not (y % 100 == 0) || (y % 400 == 0))

abbrev pub year_days : ℕ → ℕ
year_days y = if is_leap y then 366 else 365

abbrev pub month_days : ℕ → ℕ → ℕ
month_days y m =
    if m == 2 then (if is_leap y then 29 else 28)
    else (if (m == 4) || (m == 6) || (m == 9) || (m == 11) then 30 else 31)

-- the year that a day lies in, and its place in it, counted from the first of January of the year y
unfoldable pub year_at : ℕ → ℕ → ℕ → ℕ × ℕ
year_at zero y days = (y, days)
year_at (suc n) y days =
    if nat_lt days (year_days y) then (y, days) else year_at n (y + 1) (days - year_days y)

-- the same of the months of the year y
unfoldable pub month_at : ℕ → ℕ → ℕ → ℕ → ℕ × ℕ
month_at zero y m days = (m, days)
month_at (suc n) y m days =
    if nat_lt days (month_days y m) then (m, days) else month_at n y (m + 1) (days - month_days y m)

-- the date of the day with this number: 1970-01-01 has the number 0
unfoldable pub date_of : ℕ → ℕ × ℕ × ℕ
date_of day =
    let year = year_at 8100 1970 day in
    let month = month_at 11 year.0 1 year.1 in
    (year.0, month.0, month.1 + 1)

-- the date and time of a moment, in seconds since 1970
abbrev pub civil_of : ℕ → Civil
civil_of s =
    let date = date_of (s / 86400) in
    record { year = date.0; month = date.1; day = date.2; hour = s % 86400 / 3600; minute = s % 3600 / 60; second = s % 60 }

-- a number below 100 in two digits
abbrev pub two : ℕ → List ℕ
two n = (48 + n / 10 % 10) ∷ (48 + n % 10) ∷ []

-- YYYY-MM-DDThh:mm:ssZ
unfoldable pub civil_text : Civil → List ℕ
civil_text t =
    two (t.year / 100 % 100) ++ two (t.year % 100) ++ (45 ∷ []) ++ two t.month ++ (45 ∷ []) ++ two t.day ++ (84 ∷ [])
    ++ two t.hour ++ (58 ∷ []) ++ two t.minute ++ (58 ∷ []) ++ two t.second ++ (90 ∷ [])

-- the last moment that is written, in the year 8307; a later one is written as this one
abbrev pub last_written : ℕ
last_written = 200_000_000_000

-- a moment as it is written
unfoldable pub moment_text : ℕ → List ℕ
moment_text moment = civil_text (civil_of (min moment last_written))
