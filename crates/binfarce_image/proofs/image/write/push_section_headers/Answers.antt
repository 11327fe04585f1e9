use Rattle.std.proofs.Common.{◌≡◌, ℕ, ◌+◌, ◌-◌, ◌^◌, ◌<◌, min, List, ◌∷◌, ◌++◌, length, drop, get_or, sym, ap, subst, ◌∙◌, arith}
use Rattle.std.proofs.lemmas.List.{drop_more, append_assoc}
use Rattle.std.specs.List.{AllByRecursion}
use Rattle.binfarce.specs.Elf.{ElfClass}
use Rattle.binfarce_image.specs.declared.image.Part.{Part}
use Rattle.binfarce_image.specs.Image.{class_of, order_of, body_length, bodies_end, section_bytes, section_headers}
use Rattle.binfarce_image.specs.machine.Views.{class_view, HeaderFits}
use Rattle.binfarce_image.proofs.Lengths.{bodies_end_above}
use Rattle.binfarce_image.proofs.image.write.push_section_headers.Goals as goal

-- the part at an index, and the parts behind it
more : (parts : List Part) (i : ℕ) (part : Part) → i < length parts → part ≡ get_or parts i part → drop i parts ≡ part ∷ drop (i + 1) parts
more parts i part h is = drop_more parts i part h ∙ ap (λ p. p ∷ drop (i + 1) parts) (sym is)

-- the bodies behind a part end where all of them do
further : (class : ElfClass) (place : ℕ) (parts : List Part) (i : ℕ) (part : Part) → drop i parts ≡ part ∷ drop (i + 1) parts → bodies_end class place (drop i parts) < 2 ^ 32
    → (bodies_end class (place + body_length class part) (drop (i + 1) parts) < 2 ^ 32) × (place + body_length class part < 2 ^ 32)
further class place parts i part e h =
    let end : bodies_end class (place + body_length class part) (drop (i + 1) parts) < 2 ^ 32 = subst (λ (ps : List Part). bodies_end class place ps < 2 ^ 32) e h in
    (end, omega (arith, end, bodies_end_above class (place + body_length class part) (drop (i + 1) parts)))

size : (class seen : ElfClass) (part : Part) (n : ℕ) → seen ≡ class → n ≡ min (body_length seen part) (2 ^ 64 - 1) → body_length class part < 2 ^ 32 → n ≡ body_length class part
size class seen part n e h small =
    let k : n ≡ min (body_length class part) (2 ^ 64 - 1) = h ∙ ap (λ class. min (body_length class part) (2 ^ 64 - 1)) e in omega (arith, k, small)

pub push_section_header-requires : goal.push_section_header-requires
push_section_header-requires c =
    let parts = c.args.parts.now in
    let i = c.loop-part.part-index in
    let part = c.part-item.result in
    let ends = further (class_of c.args.layout) c.loop-part.place parts i part (more parts i part c.loop-part-test.true c.part-item.is) c.loop-part.invariant.end in
    omega (arith, ends.1)

pub overflow_add-place : goal.overflow_add-place
overflow_add-place c =
    let class = class_of c.args.layout in
    let parts = c.args.parts.now in
    let i = c.loop-part.part-index in
    let part = c.part-item.result in
    let ends = further class c.loop-part.place parts i part (more parts i part c.loop-part-test.true c.part-item.is) c.loop-part.invariant.end in
    let same = size class (class_view c.class-class.result) part c.body_length-place.result c.class-class.ensures c.body_length-place.ensures (omega (arith, ends.1)) in
    record { fits = omega (arith, same, ends.1) }

pub loop-part-preserved : goal.loop-part-preserved
loop-part-preserved c =
    let class = class_of c.args.layout in
    let order = order_of c.args.layout in
    let parts = c.args.parts.now in
    let i = c.loop-part.part-index in
    let part = c.part-item.result in
    let place = c.loop-part.place in
    let rest = drop (i + 1) parts in
    let split = more parts i part c.loop-part-test.true c.part-item.is in
    let ends = further class place parts i part split c.loop-part.invariant.end in
    let same = size class (class_view c.class-class.result) part c.body_length-place.result c.class-class.ensures c.body_length-place.ensures (omega (arith, ends.1)) in
    let headers = λ (n : ℕ). section_headers class order n rest in
    record {
      headers = ap (λ n. c.push_section_header.new.file.items ++ headers (place + n)) same
          ∙ ap (λ file. file ++ headers (place + body_length class part)) c.in_ok-push_section_header.ensures.header
          ∙ append_assoc c.loop-part.file.items (section_bytes class order place part) (headers (place + body_length class part))
          ∙ sym (ap (λ ps. c.loop-part.file.items ++ section_headers class order place ps) split)
          ∙ c.loop-part.invariant.headers;
      fits = λ behind. c.loop-part.invariant.fits (subst (λ (ps : List Part). AllByRecursion HeaderFits ps) (sym split) (c.in_ok-push_section_header.ensures.fits, behind));
      end = subst (λ (n : ℕ). bodies_end class (place + n) rest < 2 ^ 32) (sym same) ends.0;
    }
