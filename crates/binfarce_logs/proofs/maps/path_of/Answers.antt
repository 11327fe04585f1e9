use Rattle.std.proofs.Common.{◌∙◌, ap}
use Rattle.std.proofs.lemmas.Str.Ascii.{trim_ascii_start_is}
use Rattle.binfarce_addresses.specs.Stream.{trim_start}
use Rattle.binfarce_logs.specs.Maps.{behind_blank, without_mark}
use Rattle.binfarce_logs.proofs.maps.path_of.Goals as goal

pub returns : goal.returns
returns c =
    c.without_mark.ensures
    ∙ ap without_mark (trim_ascii_start_is c.behind_blank-4.result.now c.trim_ascii_start.result.now c.trim_ascii_start.ensures.value
    ∙ ap trim_start (c.behind_blank-4.ensures ∙ ap behind_blank (c.behind_blank-inode.ensures ∙ ap behind_blank (c.behind_blank-3.ensures ∙ ap behind_blank (c.behind_blank-2.ensures ∙ ap behind_blank c.behind_blank.ensures)))))
