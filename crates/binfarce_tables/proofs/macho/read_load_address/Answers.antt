use Rattle.binfarce_tables.proofs.MachoSure.{header_part}
use Rattle.binfarce_tables.proofs.Sure.{ending, passed_only, unmeasured}
use Rattle.std.proofs.Common.{◌≡◌, ◌≤◌, ℕ, Vec, Global, Option, arith, length, refl, ◌∙◌}
use Rattle.std.proofs.lemmas.Bool.{le-ltb}
use Rattle.binfarce_macho.specs.MachoParts.{load_address, file_load_address}
use Rattle.binfarce_tables.specs.MachoReads.{command_bytes}
use Rattle.binfarce_tables.proofs.Readings.{as_long_as, from_memory, held, instead, memory_readable, passed}
use Rattle.binfarce_tables.proofs.macho.read_load_address.Goals as goal

pub returns-in_err-opened-clause-only : goal.returns-in_err-opened-clause-only
returns-in_err-opened-clause-only g c = λ file known. unmeasured _ (λ P. header_part P file) c.in_err-opened.ensures.unsure

pub returns-in_err-commands-clause-answer : goal.returns-in_err-commands-clause-answer
returns-in_err-commands-clause-answer g c = λ file known.
    let is_known = c.in_ok-opened.ensures.known file known in
    let fails = g.S.Source.may_fail c.in_ok-opened.opened.source.now in
    let e = c.in_err-commands.field-0.0 in
    rw c.in_ok-opened.ensures.source at (passed fails (λ (address : Option ℕ). address) (file_load_address file) e c.from_residual-in_err-commands.result c.from_residual-in_err-commands.ensures
    (as_long_as fails (λ (v : Vec ℕ Global). v.items) (λ (address : Option ℕ). address) 28 file (command_bytes file) (load_address file) e (c.in_err-commands.ensures.answer file is_known)))

pub returns-in_err-commands-clause-only : goal.returns-in_err-commands-clause-only
returns-in_err-commands-clause-only g c = λ file known.
    let is_known = c.in_ok-opened.ensures.known file known in
    rw c.in_ok-opened.ensures.source at (passed_only _ (c.in_err-commands.ensures.only file is_known) c.from_residual-in_err-commands.ensures)

pub returns-clause-answer : goal.returns-clause-answer
returns-clause-answer g c = λ file known.
    let is_known = c.in_ok-opened.ensures.known file known in
    let inside : 28 ≤ length file = omega (arith, is_known.1, c.in_ok-commands.ensures.long) in
    let are : c.deref.result.now ≡ command_bytes file = c.deref.ensures.value ∙ held 28 file _ _ (c.in_ok-commands.ensures.answer file is_known) in
    let same : file_load_address file ≡ load_address file = rw (le-ltb (length file) 28 inside) refl in
    let fails = g.S.Source.may_fail c.args.source.now in
    instead fails (λ (address : Option ℕ). address) (file_load_address file) (load_address file) c.address_in.result same
    (from_memory fails (λ (address : Option ℕ). address) (load_address file) c.address_in.result (c.address_in.ensures file inside are))

pub returns-clause-only : goal.returns-clause-only
returns-clause-only g c = λ file known.
    let is_known = c.in_ok-opened.ensures.known file known in
    let inside : 28 ≤ length file = omega (arith, is_known.1, c.in_ok-commands.ensures.long) in
    let are : c.deref.result.now ≡ command_bytes file = c.deref.ensures.value ∙ held 28 file _ _ (c.in_ok-commands.ensures.answer file is_known) in
    ending (rw c.in_ok-opened.ensures.source at (c.in_ok-commands.ensures.only file is_known)) (memory_readable (λ (address : Option ℕ). address) (load_address file) c.address_in.result (c.address_in.ensures file inside are))
