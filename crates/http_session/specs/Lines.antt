-- A chunk line, byte by byte: for the reader.
use Rattle.std.specs.Prelude.{ℕ, ◌+◌, ◌*◌, ◌^◌, ◌<◌, ◌≤◌, List, [], ◌∷◌, ◌==◌, if◌then◌else◌}
use Rattle.std.specs.Char.{is_ascii_hexdigit, digit_value}
use Rattle.httparse.specs.Grammar.{is_ows}
use Rattle.http_session.specs.declared.line.LineState.{LineState}
use Rattle.http_session.specs.declared.line.LineState.TheVariants as state
use Rattle.http_session.specs.declared.line.LineStep.{LineStep}
use Rattle.http_session.specs.declared.line.LineStep.TheVariants as step
use Rattle.http_session.specs.Chunks.{Line, line, no_line, part_line}

-- at most 16 digits, and what they can write
abbrev pub IsState : LineState → Type 0
IsState (state.Digits count size) = (count ≤ 16) × (size < 16 ^ count)
IsState (state.Pad size) = Unit {0}
IsState (state.Text size) = Unit {0}
IsState (state.Return size) = Unit {0}

abbrev pub IsStateStep : LineStep → Type 0
IsStateStep (step.Goes s) = IsState s
IsStateStep (step.Ends size) = Unit {0}
IsStateStep step.Bad = Unit {0}

-- behind the digits
abbrev pub pad_step : ℕ → ℕ → LineStep
pad_step size b =
    if is_ows b then step.Goes (state.Pad size)
    else if b == 59 then step.Goes (state.Text size)
    else if b == 13 then step.Goes (state.Return size)
    else step.Bad

abbrev pub line_step : LineState → ℕ → LineStep
line_step (state.Digits count size) b =
    if is_ascii_hexdigit b then if count == 16 then step.Bad else step.Goes (state.Digits (count + 1) (size * 16 + digit_value b))
    else if count == 0 then step.Bad
    else pad_step size b
line_step (state.Pad size) b = pad_step size b
line_step (state.Text size) b = if b == 13 then step.Goes (state.Return size) else if b == 10 then step.Bad else step.Goes (state.Text size)
line_step (state.Return size) b = if b == 10 then step.Ends size else step.Bad

-- what follows a step, where the bytes behind it are read on
abbrev pub line_then : LineStep → (LineState → Line) → List ℕ → Line
line_then (step.Goes s) more bytes = more s
line_then (step.Ends size) more bytes = line size bytes
line_then step.Bad more bytes = no_line

unfoldable pub line_from : LineState → List ℕ → Line
line_from s [] = part_line
line_from s (b ∷ bytes) = line_then (line_step s b) (λ t. line_from t bytes) bytes

-- from the first digit on
abbrev pub line_of : List ℕ → Line
line_of bytes = line_from (state.Digits 0 0) bytes
