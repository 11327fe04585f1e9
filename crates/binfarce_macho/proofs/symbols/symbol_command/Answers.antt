use Rattle.std.proofs.Common.{sym, ap, ◌∙◌, nat_eq}
use Rattle.std.specs.Option.{option_map}
use Rattle.std.proofs.lemmas.Bool.{eq-eqb, ne_eqb}
use Rattle.binfarce_bytes.specs.Walk.{first}
use Rattle.binfarce_macho.specs.machine.RawMacho.{commands_left, command_view, damage_refusal}
use Rattle.binfarce_macho.specs.MachoSymbols.{symbol_command}
use Rattle.binfarce_bytes.specs.Refusal.{refusal_of}
use Rattle.binfarce_macho.proofs.CommandWalks.{takes_ok, takes_err, first_found, first_after, gives_refusal}
use Rattle.binfarce_macho.proofs.symbols.symbol_command.Goals as goal

pub loop-item-init : goal.loop-item-init
loop-item-init c = ap (first (λ command. nat_eq command.kind 2)) (ap commands_left c.into_iter-item-iterator.ensures.into_iter_gives ∙ c.commands-item-items.ensures.left)

pub returns-in_err-command : goal.returns-in_err-command
returns-in_err-command c =
    let damage = c.in_err-command.field-0.0 in
    gives_refusal refusal_of (option_map command_view) (symbol_command c.args.file.now) (damage_refusal damage) c.from_residual.result
    (sym c.loop-item.invariant
    ∙ ap (first (λ command. nat_eq command.kind 2)) (takes_err (commands_left c.loop-item.item-iterator) (commands_left c.next.new.self) c.in-Some.item damage c.in_err-command.was c.in-Some.ensures.steps.1))
    c.from_residual.ensures.1

pub returns-then-command-eq-LC_SYMTAB : goal.returns-then-command-eq-LC_SYMTAB
returns-then-command-eq-LC_SYMTAB c =
    sym c.loop-item.invariant
    ∙ ap (first (λ command. nat_eq command.kind 2)) (takes_ok (commands_left c.loop-item.item-iterator) (commands_left c.next.new.self) c.in-Some.item c.in_ok-command.command c.in_ok-command.was c.in-Some.ensures.steps.1)
    ∙ first_found (λ command. nat_eq command.kind 2) (command_view c.in_ok-command.command) (commands_left c.next.new.self) (eq-eqb c.in_ok-command.command.kind 2 c.if-command-eq-LC_SYMTAB.true)

pub loop-item-preserved : goal.loop-item-preserved
loop-item-preserved c =
    sym (ap (first (λ command. nat_eq command.kind 2)) (takes_ok (commands_left c.loop-item.item-iterator) (commands_left c.next.new.self) c.in-Some.item c.in_ok-command.command c.in_ok-command.was c.in-Some.ensures.steps.1)
    ∙ first_after (λ command. nat_eq command.kind 2) (command_view c.in_ok-command.command) (commands_left c.next.new.self) (ne_eqb c.in_ok-command.command.kind 2 c.if-command-eq-LC_SYMTAB.false))
    ∙ c.loop-item.invariant

pub returns : goal.returns
returns c = sym c.loop-item.invariant ∙ ap (first (λ command. nat_eq command.kind 2)) c.in-None.ensures.steps.1.0
