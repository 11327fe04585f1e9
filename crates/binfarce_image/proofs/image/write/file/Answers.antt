use Rattle.std.proofs.Common.{List, ◌++◌, ap, subst, ◌∙◌}
use Rattle.std.proofs.lemmas.List.{append_assoc}
use Rattle.std.specs.List.{AllByRecursion, flat_map}
use Rattle.binfarce_image.specs.declared.image.Part.{Part}
use Rattle.binfarce_image.specs.Image.{class_of, order_of, header_bytes, body, section_headers, bytes}
use Rattle.binfarce_image.specs.ImageSymbols.{PartFits}
use Rattle.binfarce_image.proofs.Fitting.{parts_fit}
use Rattle.binfarce_image.proofs.image.write.file.Goals as goal

pub returns-clause-file : goal.returns-clause-file
unfolding bytes
returns-clause-file c =
    let layout = c.args.layout in
    let class = class_of layout in
    let order = order_of layout in
    let image = c.args.image.now in
    let bodies = λ (parts : List Part). flat_map (body class order) parts in
    let headers = λ (parts : List Part). section_headers class order class.header_length parts in
    let first = c.in_ok-push_header.ensures ∙ ap (λ file. file ++ header_bytes layout image) c.in_ok-file.ensures.items in
    let second = c.in_ok-push_bodies.ensures.bodies ∙ ap (λ parts. c.push_header.new.file.items ++ bodies parts) c.as_slice-parts.ensures.value ∙ ap (λ file. file ++ bodies image.parts.items) first in
    c.in_ok-push_section_headers.ensures.headers
    ∙ ap (λ parts. c.push_bodies.new.file.items ++ headers parts) c.as_slice-parts.ensures.value
    ∙ ap (λ file. file ++ headers image.parts.items) second
    ∙ append_assoc (header_bytes layout image) (bodies image.parts.items) (headers image.parts.items)

pub returns-clause-fits : goal.returns-clause-fits
returns-clause-fits c =
    subst (λ (parts : List Part). AllByRecursion PartFits parts) c.as_slice-parts.ensures.value
    (parts_fit c.as_slice-parts.result.now c.in_ok-push_bodies.ensures.fits c.in_ok-push_section_headers.ensures.fits)
