use Rattle.std.proofs.Common.{◌∙◌, arith, sym}
use Rattle.binfarce_logs.proofs.Annotating.{shows_address, shows_others}
use Rattle.binfarce_logs.proofs.annotate.Files.push_first.Goals as goal

pub returns-then-len-eq0-clause-shows : goal.returns-then-len-eq0-clause-shows
returns-then-len-eq0-clause-shows c =
    let files = c.args.self.now.names.items in
    let within = c.others_len-others.ensures.within in
    shows_others files c.args.self.now.is_bare c.args.before.now c.args.text.now c.others_len-others.result c.args.out.now.items c.extend_from_slice.new.self.items c.args.self.now.counts within.0 within.1
    (sym c.address_len-len.ensures.len ∙ c.if-len-eq0.true) c.others_len-others.ensures.others c.in_ok-extend_from_slice.ensures.items

pub returns-clause-shows : goal.returns-clause-shows
returns-clause-shows c =
    let files = c.args.self.now.names.items in
    let piece = c.in_ok-push_address.ensures.piece in
    shows_address files c.args.self.now.is_bare c.args.before.now c.args.text.now piece.0 c.address_len-len.result c.args.out.now.items c.push_address.new.out.items c.args.self.now.counts c.push_address.new.self.counts
    c.address_len-len.ensures.len (omega (arith, c.if-len-eq0.false)) c.address_len-len.ensures.within piece.1 piece.2 piece.3
