-- The bytes of a section, and the number of the reason why there are none.
use Rattle.std.proofs.Common.{◌≡◌, inl, inr, ℕ, List, Option, None, Result, Ok, Err, sym, ap, subst, ◌∙◌}
use Rattle.std.specs.Borrow.{Bor}
use Rattle.binfarce_foreign.specs.declared.Foreign.{Foreign}
use Rattle.binfarce_sections.specs.Named.{Lack}
use Rattle.binfarce_sections.specs.Results as results
use Rattle.binfarce_sections.specs.Results.{IsLack}
use Rattle.binfarce_sections.specs.declared.error.SectionError.{SectionError}
use Rattle.binfarce_sections.specs.declared.error.SectionError.TheVariants as errors
use Rattle.binfarce_c.specs.declared.sections.Bytes.{Bytes}
use Rattle.binfarce_c.specs.Sections.{GivesBytes, HoldsBytes, bytes_or_status, lack_status}
use Rattle.binfarce_c.specs.machine.SectionErrors.{Hands, Maps, error_status, seen}

-- the number of an error is that of the reason that it gives
lack_is : (lack : Lack) (e : SectionError) → IsLack lack e → error_status e ≡ lack_status lack
lack_is lack errors.Unknown is = sym (ap lack_status is)
lack_is lack (errors.Parse e) is = sym (ap lack_status is)
lack_is lack errors.NoSection is = sym (ap lack_status is)
lack_is lack errors.NoBytes is = sym (ap lack_status is)
lack_is lack errors.PastEnd is = sym (ap lack_status is)
lack_is lack errors.OutOfMemory is = absurd is
lack_is lack errors.Write is = absurd is
lack_is lack errors.Unreadable is = absurd is

handed : (answer : Result (List ℕ) Lack) (given : Result (Bor (List ℕ)) SectionError) (result : Result (Bor (List ℕ)) ℕ)
    → results.Hands (λ (b : Bor (List ℕ)). b.now) answer given → Maps given result → seen result ≡ bytes_or_status None answer
handed answer (Ok bytes) (Ok given) is maps = ap (λ (bs : List ℕ). Ok bs) maps ∙ sym (ap (bytes_or_status None) is)
handed answer (Ok bytes) (Err status) is maps = absurd maps
handed answer (Err e) (Ok given) is maps = absurd maps
handed answer (Err e) (Err status) (lack, is, why) maps = ap (λ (n : ℕ). Err n) (maps ∙ lack_is lack e why) ∙ sym (ap (bytes_or_status None) is)

-- the bytes of a file that a reader may read
pub handed_on : (foreign : Option Foreign) (answer : Result (List ℕ) Lack) (given : Result (Bor (List ℕ)) SectionError) (result : Result (Bor (List ℕ)) ℕ)
    → foreign ≡ None → results.Hands (λ (b : Bor (List ℕ)). b.now) answer given → Maps given result → seen result ≡ bytes_or_status foreign answer
handed_on foreign answer given result known is maps =
    handed answer given result is maps ∙ sym (ap (λ (f : Option Foreign). bytes_or_status f answer) known)

-- what was found is in the struct
pub bytes_given : (name : List ℕ) (foreign : Option Foreign) (answer : Result (List ℕ) Lack) (found : Result (Bor (List ℕ)) ℕ) (new : Bytes) (status : ℕ)
    → Hands name foreign answer found → HoldsBytes (seen found) new status → GivesBytes name foreign answer new status
bytes_given name foreign answer found new status (inl is) holds = inl (is.0, subst (λ (r : Result (List ℕ) ℕ). HoldsBytes r new status) is.1 holds)
bytes_given name foreign answer found new status (inr is) holds = inr (is.0, subst (λ (r : Result (List ℕ) ℕ). HoldsBytes r new status) is.1 holds)
