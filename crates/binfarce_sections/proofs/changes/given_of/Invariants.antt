use Rattle.std.proofs.Common.{◌≡◌, ◌++◌, map, take}
use Rattle.binfarce_sections.specs.Changes.{new_row, old_row, parts_of, row_view}
use Rattle.binfarce_sections.proofs.ChangeSums.{named_view}
use Rattle.binfarce_sections.proofs.changes.given_of.Given as goal

-- the rows of the old file's sections so far
abbrev pub invariant-loop-share : goal.invariant-loop-share
invariant-loop-share l = map row_view l.given.items ≡ map old_row (map named_view (take l.share-index l.old-inside.shares.items))

-- those of the old file's parts, and of the new one's sections so far
abbrev pub invariant-loop-share-2 : goal.invariant-loop-share-2
invariant-loop-share-2 l =
    map row_view l.given.items ≡ map old_row (parts_of l.old) ++ map new_row (map named_view (take l.share-index l.new-inside.shares.items))
