use Rattle.std.proofs.Common.{ℕ, List, ◌++◌, ◌∙◌, ap}
use Rattle.std.specs.String.{string_bytes}
use Rattle.binfarce_chart.specs.Svg.{document_title, escaped}
use Rattle.binfarce_chart.proofs.Texts.{on_ok, three}
use Rattle.binfarce_chart.proofs.svg.push_document_title.Goals as goal

pub returns : goal.returns
unfolding document_title
returns c = on_ok _ _ c.writeln.result (λ last. three _ _ _ _ _ _ _ c.in_ok-push_str.ensures.bytes (c.in_ok-push_escaped.ensures ∙ ap (λ (t : List ℕ). string_bytes c.push_str.new.self ++ escaped t) c.as_bytes.ensures.value) last) c.writeln.ensures.bytes
