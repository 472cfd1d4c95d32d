use Rattle.std.proofs.Common.{◌∙◌, ◌≤◌, ◌-◌, ap, drop, arith}
use Rattle.http_session.proofs.Buffers.{skipped}
use Rattle.std.proofs.lemmas.List.{length-take}
use Rattle.http_session.proofs.buffer.Buffer.skip.Goals as goal

pub returns : goal.returns
returns c =
    let few : c.args.count ≤ c.self.inside.end - c.self.inside.start = grind (arith, length-take, c.requires, c.self.view_is) in
    skipped c.self.inside.start c.self.inside.end c.args.count c.self.inside.bytes.items few ∙ ap (drop c.args.count) c.self.view_is
