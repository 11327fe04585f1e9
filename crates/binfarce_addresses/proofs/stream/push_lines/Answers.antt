use Rattle.binfarce_addresses.proofs.Answering.{answers_of_lines}
use Rattle.binfarce_addresses.proofs.stream.push_lines.Goals as goal

pub returns : goal.returns
returns c =
    answers_of_lines c.args.places.now c.args.lookup c.in_ok-new.field-0 c.args.bytes.now c.args.text.now.items c.push_answers.new.text.items c.new-counts.result c.push_answers.new.counts c.in_ok-len.len c.in_ok-new.ensures c.new-counts.ensures c.in_ok-len.ensures.answers
