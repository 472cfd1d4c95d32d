use Rattle.std.proofs.Common.{◌≡◌, arith, unsigned_abs}
use Rattle.jiff.proofs.SpanFacts.{signed_arith}
use Rattle.jiff_core.proofs.CalendarLemmas.{days_in_month_bounds}
use Rattle.civil_time.proofs.Counting.{civil_is}
use Rattle.civil_time.proofs.moment.parts_at.Goals as goal

pub returns : goal.returns
returns c =
    let at = c.civil_at-at.result in
    let month : c.unsigned_abs-2.result ≡ at.date.month = omega (arith, signed_arith, c.unsigned_abs-2.ensures.value, c.month.ensures) in
    let most = days_in_month_bounds at.date.year at.date.month in
    let day : c.unsigned_abs-3.result ≡ at.date.day = omega (arith, signed_arith, c.unsigned_abs-3.ensures.value, c.day.ensures, most) in
    let hour : c.unsigned_abs-4.result ≡ at.time.hour = omega (arith, signed_arith, c.unsigned_abs-4.ensures.value, c.hour.ensures) in
    let minute : c.unsigned_abs-5.result ≡ at.time.minute = omega (arith, signed_arith, c.unsigned_abs-5.ensures.value, c.minute.ensures) in
    let second : c.unsigned_abs-6.result ≡ at.time.second = omega (arith, signed_arith, c.unsigned_abs-6.ensures.value, c.second.ensures) in
    let year : c.unsigned_abs.result ≡ unsigned_abs at.date.year = omega (arith, signed_arith, c.unsigned_abs.ensures.value, c.year.ensures) in
    rw (year, month, day, hour, minute, second) (civil_is at c.args.moment c.civil_at-at.ensures)
