use Rattle.std.proofs.Common.{◌≡◌, ◌+◌, ◌-◌, ℕ, true, false, ap, ap₂, sym, subst, ◌∙◌, arith}
use Rattle.std.proofs.lemmas.Bool.{eq-eqb, ne_eqb}
use Rattle.std.specs.Option.{option_map}
use Rattle.binfarce_bytes.specs.declared.ByteOrder.TheVariants.{LittleEndian}
use Rattle.binfarce_bytes.specs.Number.{bytes_at, number}
use Rattle.binfarce_bytes.specs.Refusal.{Gives, refusal_of}
use Rattle.binfarce_macho.specs.Macho.{command_at}
use Rattle.binfarce_identity.specs.Identity.{Answer, identity}
use Rattle.binfarce_identity.specs.MachoIdentity.{is_uuid}
use Rattle.binfarce_identity.specs.declared.identity.Kind.TheVariants.{Uuid}
use Rattle.binfarce_identity.proofs.UuidSteps.{uuid_from, none_wanted, no_head, too_small, found, next}
use Rattle.binfarce_identity.proofs.macho.uuid_of.Goals as goal

same_start : (n : ℕ) → n ≡ n + 0
same_start n = omega arith

pub returns-in_default : goal.returns-in_default
returns-in_default c = sym c.loop-k.invariant ∙ no_head c.args.bytes.now (c.args.count - c.loop-k._k) c.loop-k.offset (omega (arith, c.in_default.ensures))

pub returns-in_default-number_at : goal.returns-in_default-number_at
returns-in_default-number_at c = sym c.loop-k.invariant ∙ no_head c.args.bytes.now (c.args.count - c.loop-k._k) c.loop-k.offset (omega (arith, c.in_default-number_at.ensures))

pub returns-then-size-lt-COMMAND_HEAD : goal.returns-then-size-lt-COMMAND_HEAD
returns-then-size-lt-COMMAND_HEAD c =
    let at = c.loop-k.offset in
    let size : c.in-Ok-number_at.size ≡ (command_at c.args.bytes.now at).size = c.in-Ok-number_at.ensures.1 in
    sym c.loop-k.invariant
    ∙ too_small c.args.bytes.now (c.args.count - c.loop-k._k) at (omega (arith, c.loop-k-test.true)) (omega (arith, c.in-Ok-number_at.ensures.0)) (omega (arith, size, c.if-size-lt-COMMAND_HEAD.true))

pub returns-then-kind-eq-LC_UUID : goal.returns-then-kind-eq-LC_UUID
returns-then-kind-eq-LC_UUID c =
    let bytes = c.args.bytes.now in
    let at = c.loop-k.offset in
    let size : c.in-Ok-number_at.size ≡ (command_at bytes at).size = c.in-Ok-number_at.ensures.1 in
    let kind : c.in-Ok.kind ≡ (command_at bytes at).kind = c.in-Ok.ensures.1 ∙ ap (λ (n : ℕ). number LittleEndian (bytes_at bytes n 4)) (same_start at) in
    let is : is_uuid (command_at bytes at) ≡ true = eq-eqb (command_at bytes at).kind 0x1B (sym kind ∙ c.if-kind-eq-LC_UUID.true) in
    subst (λ (answer : Answer). Gives refusal_of (option_map (λ b. identity Uuid b.now)) answer c.uuid_at.result)
    (sym (found bytes (c.args.count - c.loop-k._k) at (omega (arith, c.loop-k-test.true)) (omega (arith, c.in-Ok-number_at.ensures.0)) (omega (arith, size, c.if-size-lt-COMMAND_HEAD.false)) is) ∙ c.loop-k.invariant)
    c.uuid_at.ensures

pub loop-k-preserved : goal.loop-k-preserved
loop-k-preserved c =
    let bytes = c.args.bytes.now in
    let at = c.loop-k.offset in
    let size : c.in-Ok-number_at.size ≡ (command_at bytes at).size = c.in-Ok-number_at.ensures.1 in
    let kind : c.in-Ok.kind ≡ (command_at bytes at).kind = c.in-Ok.ensures.1 ∙ ap (λ (n : ℕ). number LittleEndian (bytes_at bytes n 4)) (same_start at) in
    let is : is_uuid (command_at bytes at) ≡ false = ne_eqb (command_at bytes at).kind 0x1B (λ e. c.if-kind-eq-LC_UUID.false (kind ∙ e)) in
    let left : (c.args.count - c.loop-k._k) - 1 ≡ c.args.count - (c.loop-k._k + 1) = omega arith in
    let after : c.to_index-offset.result ≡ at + (command_at bytes at).size = omega (arith, c.to_index-offset.ensures, size) in
    sym (next bytes (c.args.count - c.loop-k._k) at (omega (arith, c.loop-k-test.true)) (omega (arith, c.in-Ok-number_at.ensures.0)) (omega (arith, size, c.if-size-lt-COMMAND_HEAD.false)) is
    ∙ ap₂ (λ (n o : ℕ). uuid_from bytes n o) left (sym after))
    ∙ c.loop-k.invariant

pub returns : goal.returns
returns c = sym c.loop-k.invariant ∙ none_wanted c.args.bytes.now (c.args.count - c.loop-k._k) c.loop-k.offset (omega (arith, c.loop-k-test.false))
