use Rattle.std.proofs.Common.{◌∙◌, Bool, Ok, ◌∷◌, [], ap, subst}
use Rattle.std.specs.Prelude.{is_some}
use Rattle.std.proofs.lemmas.Result.{on_ok_weaker}
use Rattle.binfarce_rows.specs.Address.{address_of}
use Rattle.binfarce_logs.specs.Annotated.{found_by}
use Rattle.binfarce_addresses.specs.declared.counts.Reply.TheVariants.{Held}
use Rattle.binfarce_logs.specs.machine.Annotating.{IsFoundBy}
use Rattle.binfarce_addresses.specs.Counts.{AddsUp}
use Rattle.binfarce_logs.proofs.Among.{by_word}
use Rattle.binfarce_logs.proofs.Annotating.{piece_found, piece_replied, piece_unfound}
use Rattle.binfarce_logs.proofs.annotate.Files.push_address.Goals as goal

pub returns-in-Err-clause-piece : goal.returns-in-Err-clause-piece
returns-in-Err-clause-piece c =
    let files = c.args.self.now.names.items in
    let before = c.args.before.now in
    let word = c.args.word.now in
    let by = by_word files c.deref.result.now before word c.parse_address.result c.find_by.result c.deref.ensures.value c.parse_address.ensures c.find_by.ensures in
    piece_replied files before word c.args.out.now.items c.extend_from_slice.new.self.items c.args.self.now.counts c.add.new.self c.in-Err.reply (subst (IsFoundBy files (found_by files before (address_of word))) c.in-Err.is by) c.in_ok-extend_from_slice.ensures.items c.add.ensures

pub returns-in_default-clause-piece : goal.returns-in_default-clause-piece
returns-in_default-clause-piece c =
    let files = c.args.self.now.names.items in
    let before = c.args.before.now in
    let word = c.args.word.now in
    let counts = c.args.self.now.counts in
    let after = c.add-2.new.self in
    let by = by_word files c.deref.result.now before word c.parse_address.result c.find_by.result c.deref.ensures.value c.parse_address.ensures c.find_by.ensures in
    piece_unfound files before word c.args.out.now.items c.extend_from_slice.new.self.items counts after
    (subst (IsFoundBy files (found_by files before (address_of word))) (c.in-Ok.is ∙ ap Ok c.in_default.is) by) c.in_ok-extend_from_slice.ensures.items
    (subst (λ (b : Bool). AddsUp counts after (Held b ∷ [])) (c.is_some.ensures ∙ ap is_some c.in_default.is) c.add-2.ensures)

pub returns-clause-piece : goal.returns-clause-piece
returns-clause-piece c =
    let files = c.args.self.now.names.items in
    let before = c.args.before.now in
    let word = c.args.word.now in
    let counts = c.args.self.now.counts in
    let after = c.add-2.new.self in
    let found = c.in-Some in
    let by = by_word files c.deref.result.now before word c.parse_address.result c.find_by.result c.deref.ensures.value c.parse_address.ensures c.find_by.ensures in
    let here = subst (IsFoundBy files (found_by files before (address_of word))) (c.in-Ok.is ∙ ap Ok found.is) by in
    let name = c.in_ok-push_name.ensures.name in
    let adds = subst (λ (b : Bool). AddsUp counts after (Held b ∷ [])) (c.is_some.ensures ∙ ap is_some found.is) c.add-2.ensures in
    on_ok_weaker c.push_offset.result (λ written. piece_found files before word found.file found.place found.offset c.index_mut.result.now _ name.0 c.args.out.now.items c.extend_from_slice.new.self.items c.extend_from_slice-2.new.self.items c.push_name.new.text.items c.push_offset.new.text.items counts after
    here c.index_mut.ensures.value name.1 c.in_ok-extend_from_slice.ensures.items c.in_ok-extend_from_slice-2.ensures.items name.2 written adds) c.push_offset.ensures
