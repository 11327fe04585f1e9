use Rattle.std.proofs.Common.{◌≡◌, ◌∙◌, ◌++◌, ℕ, List, None, Some, Option, ap, append-nil, drop, sym}
use Rattle.std.specs.Option.{option_map}
use Rattle.std.specs.Global.{Vec}
use Rattle.std.specs.String.{string_bytes}
use Rattle.binfarce_jobs.specs.Hints.{debug_path, link_text, stripped_words}
use Rattle.binfarce_jobs.proofs.Links.{debug_is}
use Rattle.binfarce_jobs.proofs.hint.debug_files.Goals as goal

pub returns-in_default-3 : goal.returns-in_default-3
returns-in_default-3 g c = λ file is.
    let path = string_bytes c.in-Some-2.text in
    let noted = sym (c.in_ok-note.ensures file is) ∙ ap (λ (o : Option (Vec ℕ)). option_map (λ v. v.items) o) c.in-Some.is in
    let placed = sym (ap (λ o. option_map (λ t. string_bytes t) o) c.in-Some-2.is) ∙ c.in_ok-text.ensures ∙ ap (λ (bytes : List ℕ). debug_path (drop 16 bytes)) c.deref.ensures.value in
    let linked = sym (c.in_ok-link.ensures file is) ∙ ap (λ (o : Option (Vec ℕ)). option_map (λ v. v.items) o) c.in_default-3.is in
    sym (ap stripped_words (debug_is file c.in-Some.note.items path None noted placed linked ∙ ap (λ (p : List ℕ). Some p) (append-nil path)))

pub returns : goal.returns
returns g c = λ file is.
    let path = string_bytes c.in-Some-2.text in
    let link = c.in-Some-3.link.items in
    let noted = sym (c.in_ok-note.ensures file is) ∙ ap (λ (o : Option (Vec ℕ)). option_map (λ v. v.items) o) c.in-Some.is in
    let placed = sym (ap (λ o. option_map (λ t. string_bytes t) o) c.in-Some-2.is) ∙ c.in_ok-text.ensures ∙ ap (λ (bytes : List ℕ). debug_path (drop 16 bytes)) c.deref.ensures.value in
    let linked = sym (c.in_ok-link.ensures file is) ∙ ap (λ (o : Option (Vec ℕ)). option_map (λ v. v.items) o) c.in-Some-3.is in
    let pushed : string_bytes c.push_link.new.text ≡ path ++ link_text link = c.in_ok-push_link.ensures ∙ ap (λ (bytes : List ℕ). path ++ link_text bytes) c.deref-2.ensures.value in
    sym (ap stripped_words (debug_is file c.in-Some.note.items path (Some link) noted placed linked ∙ ap (λ (p : List ℕ). Some p) (sym pushed)))
