use Rattle.std.proofs.Common.{◌≡◌, Bool, true, false, ℕ, List, Option, Some, None, Result, Ok, Err, refl, sym, ap, ◌∙◌, if◌then◌else◌}
use Rattle.std.specs.Option.{option_map}
use Rattle.binfarce_bytes.specs.Refusal.{◌>>=◌, Refusal, refusal_of}
use Rattle.binfarce_bytes.specs.Walk.{first}
use Rattle.binfarce_macho.specs.Macho.{Command, commands, body_of}
use Rattle.binfarce_macho.specs.MachoParts.{is_text_segment, segment_address, load_address}
use Rattle.binfarce_macho.specs.machine.RawMacho.{commands_left, command_view, damage_refusal}
use Rattle.binfarce_macho.proofs.CommandWalks.{takes_ok, takes_err, first_found, first_after, gives_refusal}
use Rattle.binfarce_macho.proofs.parts.load_address.Goals as goal

-- the address of the segment that was found
abbrev address_of : List ℕ → Result (Option Command) Refusal → Result (Option ℕ) Refusal
address_of file found = found >>= λ command. Ok (option_map (λ command. segment_address file (body_of command)) command)

is_found : (file : List ℕ) (found : Result (Option Command) Refusal) → first (is_text_segment file) (commands file) ≡ found → load_address file ≡ address_of file found
unfolding load_address
is_found file found is = ap (address_of file) is

if_some : (b : Bool) (x a : ℕ) → Some a ≡ (if b then Some x else None) → (b ≡ true) × (x ≡ a)
if_some true x a e = (refl, cc)
if_some false x a e = absurd cc

if_none : (b : Bool) (x : ℕ) → None ≡ (if b then Some x else None) → b ≡ false
if_none true x e = absurd cc
if_none false x e = refl

pub loop-item-init : goal.loop-item-init
loop-item-init c = ap (first (is_text_segment c.args.file.now)) (ap commands_left c.into_iter-item-iterator.ensures.into_iter_gives ∙ c.commands-item-items.ensures.left)

pub returns-in_err-command : goal.returns-in_err-command
returns-in_err-command c =
    let file = c.args.file.now in
    let damage = c.in_err-command.field-0.0 in
    gives_refusal refusal_of (λ a. a) (load_address file) (damage_refusal damage) c.from_residual.result
    (is_found file (Err (damage_refusal damage))
    (sym c.loop-item.invariant
    ∙ ap (first (is_text_segment file)) (takes_err (commands_left c.loop-item.item-iterator) (commands_left c.next.new.self) c.in-Some.item damage c.in_err-command.was c.in-Some.ensures.steps.1)))
    c.from_residual.ensures.1

pub returns-in-Some-text_address : goal.returns-in-Some-text_address
returns-in-Some-text_address c =
    let file = c.args.file.now in
    let command = command_view c.in_ok-command.command in
    let is = if_some (is_text_segment file command) (segment_address file (body_of command)) c.in-Some-text_address.address c.in-Some-text_address.ensures in
    is_found file (Ok (Some command))
    (sym c.loop-item.invariant
    ∙ ap (first (is_text_segment file)) (takes_ok (commands_left c.loop-item.item-iterator) (commands_left c.next.new.self) c.in-Some.item c.in_ok-command.command c.in_ok-command.was c.in-Some.ensures.steps.1)
    ∙ first_found (is_text_segment file) command (commands_left c.next.new.self) is.0)
    ∙ ap (λ (a : ℕ). Ok (Some a)) is.1

pub loop-item-preserved : goal.loop-item-preserved
loop-item-preserved c =
    let file = c.args.file.now in
    let command = command_view c.in_ok-command.command in
    sym (ap (first (is_text_segment file)) (takes_ok (commands_left c.loop-item.item-iterator) (commands_left c.next.new.self) c.in-Some.item c.in_ok-command.command c.in_ok-command.was c.in-Some.ensures.steps.1)
    ∙ first_after (is_text_segment file) command (commands_left c.next.new.self) (if_none (is_text_segment file command) (segment_address file (body_of command)) c.in-None-text_address.ensures))
    ∙ c.loop-item.invariant

pub returns : goal.returns
returns c =
    let file = c.args.file.now in
    is_found file (Ok None) (sym c.loop-item.invariant ∙ ap (first (is_text_segment file)) c.in-None.ensures.steps.1.0)
