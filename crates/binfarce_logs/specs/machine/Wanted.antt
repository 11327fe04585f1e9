-- The addresses that lines are asked for.
use Rattle.std.specs.Prelude.{ℕ, List, Option}
use Rattle.binfarce_logs.specs.Maps.{base_by, code_offset_of, first_start_of, mapping_for, mapping_in, other_than, same_as, start_of}
use Rattle.binfarce_logs.specs.declared.maps.Wanted.{Wanted}
use Rattle.binfarce_logs.specs.declared.maps.Wanted.TheVariants.{AnyStart, Start, FirstStart, FirstAt, OtherFirst, CodeOffset, Base, OtherBase}

-- the address of this kind that a line has
abbrev pub value_for : Wanted → (line : List ℕ) → Option ℕ
value_for AnyStart line = start_of (mapping_in line)
value_for (Start end) line = start_of (mapping_for end.now line)
value_for (FirstStart end) line = first_start_of (mapping_for end.now line)
value_for (FirstAt end one) line = same_as one (first_start_of (mapping_for end.now line))
value_for (OtherFirst end one) line = other_than one (first_start_of (mapping_for end.now line))
value_for (CodeOffset end) line = code_offset_of (mapping_for end.now line)
value_for (Base end loaded) line = base_by loaded (mapping_for end.now line)
value_for (OtherBase end loaded base) line = other_than base (base_by loaded (mapping_for end.now line))
