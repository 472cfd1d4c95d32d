use Rattle.std.proofs.Common.{◌≡◌, ◌-◌, ◌++◌, length, arith, refl}
use Rattle.disk_core.proofs.Bytes.{drop_two}
use Rattle.disk_core.proofs.file.left_of.Goals as goal

pub returns : goal.returns
returns c =
    let written = c.args.written in
    let head = c.args.head.now in
    let body = c.args.body.now in
    let tail = c.args.tail.now in
    let behind_head : c.saturating_sub-behind_head.result ≡ written - length head = omega (arith, c.saturating_sub-behind_head.ensures) in
    let behind_body : c.saturating_sub-behind_body.result ≡ written - length head - length body =
    omega (arith, behind_head, c.saturating_sub-behind_body.ensures) in
    let first = drop_two written head (body ++ tail) in
    let second = drop_two (written - length head) body tail in
    rw (c.rest_of.ensures, c.rest_of-2.ensures, c.rest_of-3.ensures, behind_body, behind_head, first, second) refl
