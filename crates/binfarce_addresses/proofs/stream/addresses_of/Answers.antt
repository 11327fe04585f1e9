use Rattle.std.proofs.Common.{refl, sym, ap, ◌∙◌}
use Rattle.std.proofs.lemmas.Str.Ascii.{trim_ascii_is}
use Rattle.binfarce_rows.specs.Address.{address_of}
use Rattle.binfarce_addresses.specs.Stream.{trim_start}
use Rattle.binfarce_addresses.proofs.Streams.{line_read}
use Rattle.binfarce_addresses.proofs.stream.addresses_of.Goals as goal

pub loop-line-preserved : goal.loop-line-preserved
loop-line-preserved c =
    let bytes = c.args.bytes.now in
    let len = c.loop-line.len in
    let line = c.in-Some.line.now in
    let writes = sym (c.parse_address.ensures ∙ ap address_of (trim_ascii_is line c.trim_ascii.result.now (trim_start line) refl c.trim_ascii.ensures.value)) in
    line_read bytes line c.loop-line.addresses.items c.push.new.self.items len c.parse_address.result
    c.loop-line.invariant c.in-Some.ensures writes c.in_ok-push.ensures.items
