use Rattle.binfarce_sections.proofs.FullNames.{equal_front, other_front}
use Rattle.binfarce_sections.proofs.bytes.is_full_name.Goals as goal

pub returns-in-Some : goal.returns-in-Some
returns-in-Some c =
    let found = c.in-Some.ensures.cases in
    equal_front c.args.word.now c.args.segment.now c.args.name.now c.as_bytes.result.now c.as_bytes-2.result.now c.as_bytes-in-Some.result.now c.in-Some.rest.now c.is_after_comma.result
    c.as_bytes.ensures.value c.as_bytes-2.ensures.value c.as_bytes-in-Some.ensures.value found.0 found.1 c.is_after_comma.ensures

pub returns-in-None : goal.returns-in-None
returns-in-None c =
    other_front c.args.word.now c.args.segment.now c.args.name.now c.as_bytes.result.now c.as_bytes-2.result.now
    c.as_bytes.ensures.value c.as_bytes-2.ensures.value c.in-None.ensures.cases
