use Rattle.std.proofs.Common.{rules, Ok, Err}
use Rattle.std.specs.Option.{option_map}
use Rattle.binfarce_macho.specs.Macho.{walk, is_named}
use Rattle.binfarce_macho.specs.MachoViews.{section_view}
use Rattle.binfarce_macho.specs.machine.RawMacho.{damage_refusal}
use Rattle.binfarce_bytes.proofs.Firsts.{first_is}
use Rattle.binfarce_bytes.specs.Refusal.{refusal_of}
use Rattle.binfarce_bytes.specs.Walk.{first}
use Rattle.binfarce_macho.proofs.CommandWalks.{gives_refusal}
use Rattle.binfarce_macho.proofs.sections.section_with_name.Goals as goal

pub returns-in_err-first_section : goal.returns-in_err-first_section
returns-in_err-first_section c =
    let damage = c.in_err-first_section.field-0.0 in
    gives_refusal refusal_of (option_map section_view) (first (λ s. is_named c.args.segment_name.now c.args.section_name.now s) (walk c.args.file.now)) (damage_refusal damage) c.from_residual.result
    (first_is damage_refusal section_view _ (λ s. is_named c.args.segment_name.now c.args.section_name.now s) (walk c.args.file.now) (Err damage) (λ value answer unused. search rules) c.in_err-first_section.ensures)
    c.from_residual.ensures.1

pub returns : goal.returns
returns c =
    first_is refusal_of section_view _ (λ s. is_named c.args.segment_name.now c.args.section_name.now s) (walk c.args.file.now) (Ok c.in_ok-first_section.field-0)
    (λ value answer unused. search rules) c.in_ok-first_section.ensures
