-- The element of a filter that was read is spelled by its canonical text.
use Rattle.std.proofs.Common.{true}
use Rattle.doc_laws.proofs.Whole.{canon_spelled}
use Rattle.filter_laws.specs.Standing.{IsSpelled}
use Rattle.filter_laws.proofs.Operators.{filter_stands}

pub filters_are_spelled : IsSpelled
filters_are_spelled names parameters schema kind e filter are texts keeps fit h =
    canon_spelled names _ (filter_stands names are.prefixes are.fes are.gml parameters texts schema keeps kind true 32 100000 e filter h (record { texts = fit.texts; deep = fit.deep; many = fit.many })).stands
