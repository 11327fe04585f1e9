use Rattle.std.proofs.Common.{◌∙◌, ap, length, take}
use Rattle.binfarce_rows.proofs.Heads.{size_of_blanks, head_put}
use Rattle.binfarce_rows.proofs.head.put_head.Goals as goal

pub put_size-requires-clause-blanks : goal.put_size-requires-clause-blanks
put_size-requires-clause-blanks c =
    size_of_blanks c.put_address.new.digits c.args.head.now (c.put_address.auto.digits ∙ ap (λ l. length (take 16 l)) c.requires.blanks) c.requires.blanks

pub returns : goal.returns
returns c =
    head_put c.args.address c.args.size c.put_address.new.digits c.put_size.new.digits c.args.head.now (c.put_address.auto.digits ∙ ap (λ l. length (take 16 l)) c.requires.blanks) c.requires.blanks c.put_address.ensures c.put_size.ensures
