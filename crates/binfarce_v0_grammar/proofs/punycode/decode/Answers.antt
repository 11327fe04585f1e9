use Rattle.std.proofs.Common.{◌≡◌, ◌<◌, insert, take, Some, None, length, sym, ap, ◌∙◌, arith, rules}
use Rattle.binfarce_v0_grammar.specs.Punycode.{punycode_decoded}
use Rattle.binfarce_v0_grammar.proofs.PunycodeLemmas.{punycode_decoded-long, Decodes-start, Decodes-done, Decodes-full, Decodes-not_scalar, Decodes-invalid, Decodes-more}
use Rattle.binfarce_v0_grammar.proofs.punycode.decode.Goals as goal

pub returns-then-ascii-gt-MOST_CHARACTERS : goal.returns-then-ascii-gt-MOST_CHARACTERS
returns-then-ascii-gt-MOST_CHARACTERS c = sym (punycode_decoded-long _ _ c.if-ascii-gt-MOST_CHARACTERS.true)

pub loop-rest-init : goal.loop-rest-init
loop-rest-init c =
    Decodes-start _ _ _ c.if-ascii-gt-MOST_CHARACTERS.false (search rules) c.copy_ascii.ensures

pub returns-then-count-eq-MOST_CHARACTERS : goal.returns-then-count-eq-MOST_CHARACTERS
returns-then-count-eq-MOST_CHARACTERS c =
    let some : 0 < length c.loop-rest.rest.now = search rules in
    sym (Decodes-full c.loop-rest.invariant c.if-count-eq-MOST_CHARACTERS.true some)

pub returns-in_err-delta : goal.returns-in_err-delta
returns-in_err-delta c =
    let some : 0 < length c.loop-rest.rest.now = search rules in
    let none : punycode_decoded c.args.ascii.now c.args.code.now ≡ None =
    Decodes-invalid c.loop-rest.invariant (omega (arith, c.loop-rest.invariant.room)) some c.in_err-delta.ensures.none in
    rw none (search rules)

pub returns-in_err-character : goal.returns-in_err-character
returns-in_err-character c =
    let none : punycode_decoded c.args.ascii.now c.args.code.now ≡ None =
    Decodes-not_scalar c.loop-rest.invariant (omega (arith, c.loop-rest.invariant.room)) _ _ c.in_ok-delta.ensures.some c.in_err-character.ensures in
    rw none (search rules)

pub loop-rest-preserved : goal.loop-rest-preserved
loop-rest-preserved c =
    rw (c.adapted_bias-bias.ensures)
    (Decodes-more c.loop-rest.invariant (omega (arith, c.loop-rest.invariant.room)) _ _ _ c.in_ok-delta.ensures.some c.in_ok-character.ensures.0
    (omega (arith, c.loop-rest.invariant.full)) (c.insert_character.ensures ∙ ap (insert (take c.loop-rest.count c.loop-rest.characters) _) c.in_ok-character.ensures.1))

pub returns : goal.returns
returns c =
    let none : length c.loop-rest.rest.now ≡ 0 = search rules in
    ap Some c.new.ensures ∙ Decodes-done c.loop-rest.invariant none
