-- A text with frames is annotated part by part.
use Rattle.std.proofs.Common.{◌≡◌, ◌∙◌, ℕ, Bool, true, false, List, [], ◌++◌, Option, Result, Ok, Err, append_assoc, append-nil, refl, sym, ap, subst}
use Rattle.binfarce_frames.specs.Frames.{framed}
use Rattle.binfarce_frames.specs.Rest.{rest}
use Rattle.binfarce_frames.proofs.Steps.{nothing}
use Rattle.binfarce_text.specs.Streams.{Streams}
use Rattle.binfarce_text.specs.declared.streams.StreamError.{StreamError}
use Rattle.binfarce_text.specs.declared.streams.StreamError.TheVariants.{Read, Write, OutOfMemory}
use Rattle.binfarce_logs.specs.Annotated.{File, IsPrefixOf}
use Rattle.binfarce_logs.specs.Annotated.ArePiecesAfter.{nothing as no_pieces}
use Rattle.binfarce_logs.specs.declared.framed.Framing.{Framing}
use Rattle.binfarce_logs.specs.machine.Annotating as annotating
use Rattle.binfarce_logs.specs.machine.Annotating.{Annotates}
use Rattle.binfarce_logs.specs.machine.Framing.{HasPassed, Holds, IsDone, MayBreakOff, with_frames}
use Rattle.binfarce_logs.proofs.Annotating as whole

-- the next part of the text was passed on as `added`
pub passes : (first old new : Framing) (text part passed added bytes : List ℕ) → HasPassed first old text passed → ((more : List ℕ) → rest old.frames (part ++ more) ≡ added ++ rest new.frames more) → bytes ≡ added → HasPassed first new (text ++ part) (passed ++ bytes)
passes first old new text part passed added bytes has next is = λ more.
    ap (with_frames first) (append_assoc text part more) ∙ has (part ++ more) ∙ ap (λ (t : List ℕ). passed ++ t) (next more)
    ∙ sym (append_assoc passed added (rest new.frames more)) ∙ ap (λ (b : List ℕ). (passed ++ b) ++ rest new.frames more) (sym is)

pub goes_on : (old new : Framing) (part added bytes more : List ℕ) → ((after : List ℕ) → rest old.frames (part ++ after) ≡ added ++ rest new.frames after) → bytes ≡ added → Annotates old.pass new.pass false bytes more
    → (first : Framing) (text made : List ℕ) → Holds first old text made → Holds first new (text ++ part) (made ++ more)
goes_on old new part added bytes more next is annotates first text made (passed, holds, has) =
    (passed ++ bytes, whole.goes_on first.pass old.pass new.pass bytes more annotates passed made holds, passes first old new text part passed added bytes has next is)

-- all of the text was passed on, and it ends
pub ends : (old mid new : Framing) (bytes one two : List ℕ) → bytes ≡ rest old.frames [] → Annotates old.pass mid.pass false bytes one → Annotates mid.pass new.pass true [] two
    → (first : Framing) (text made : List ℕ) → Holds first old text made → IsDone first new true text (made ++ (one ++ two))
ends old mid new bytes one two is goes last first text made (passed, holds, has) =
    let all : passed ++ bytes ≡ with_frames first text = ap (λ (t : List ℕ). passed ++ t) is ∙ sym (ap (with_frames first) (sym (append-nil text)) ∙ has []) in
    subst (λ (t : List ℕ). annotating.IsDone first.pass new.pass true (with_frames first text) t) (append_assoc made one two)
    (subst (λ (t : List ℕ). annotating.IsDone first.pass new.pass true t ((made ++ one) ++ two)) all
    (whole.ends first.pass mid.pass new.pass [] two refl last (passed ++ bytes) (made ++ one) (whole.goes_on first.pass old.pass mid.pass bytes one goes passed made holds)))

pub breaks_off : (first now : Framing) (text part made others : List ℕ) → Holds first now text (made ++ others) → MayBreakOff first (text ++ part) made
breaks_off first now text part made others (passed, holds, has) =
    subst (λ (t : List ℕ). annotating.MayBreakOff first.pass t made) (sym (has part)) (whole.breaks_off first.pass now.pass passed (rest now.frames part) made others holds)

-- nothing is written of a text without a byte
pub none : (names : List (List ℕ)) (files : List File) (bare : Bool) (text : List ℕ) → text ≡ framed names [] [] → IsPrefixOf files bare text []
none names files bare text is = subst (λ (t : List ℕ). IsPrefixOf files bare t []) (sym (is ∙ nothing names [])) ([], ([], no_pieces [], refl))

-- what holds of files and a text holds of equal ones
pub moved : (P : List File → Bool → List ℕ → Type 0) (names files : List File) (bare own : Bool) (text other : List ℕ) → names ≡ files → bare ≡ own → text ≡ other → P names bare text → P files own other
moved P names files bare own text other named bared is holds =
    subst (λ (t : List ℕ). P files own t) is (subst (λ (b : Bool). P files b text) bared (subst (λ (fs : List File). P fs bare text) named holds))

module _ {X : Type 0} (W V : X → (text written : List ℕ) → Type 0) (C D B E : (text written : List ℕ) → Type 0) (given left old new : Option (List ℕ)) where
  -- the stream has other outputs, each of which is one of these
  pub streams_as : ((x : X) (text written : List ℕ) → W x text written → V x text written) → ((text written : List ℕ) → C text written → D text written) → ((text written : List ℕ) → B text written → E text written)
      → (result : Result X StreamError) → Streams W C B given left old new result → Streams V D E given left old new result
  streams_as w c b (Ok x) (end, (text, written, read, is, wrote)) = (end, (text, written, read, w x text written is, wrote))
  streams_as w c b (Err Read) (text, written, read, is, wrote) = (text, written, read, c text written is, wrote)
  streams_as w c b (Err Write) (text, written, read, is, wrote) = (text, written, read, b text written is, wrote)
  streams_as w c b (Err OutOfMemory) (text, written, read, is, wrote) = (text, written, read, b text written is, wrote)
