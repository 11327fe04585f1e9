-- The steps of annotating a text with frames.
use Rattle.std.specs.Prelude.{◌≡◌, ℕ, Bool, List, ◌++◌}
use Rattle.binfarce_frames.specs.Rest.{rest}
use Rattle.binfarce_logs.specs.declared.framed.Framing.{Framing}
use Rattle.binfarce_logs.specs.machine.Annotating as annotating

-- the text with the offsets of its frames
abbrev pub with_frames : Framing → (text : List ℕ) → List ℕ
with_frames first text = rest first.frames text

-- a part of it was passed on, and the rest is that of the frames
abbrev pub HasPassed : (first now : Framing) → (text passed : List ℕ) → Type 0
HasPassed first now text passed = (more : List ℕ) → with_frames first (text ++ more) ≡ passed ++ rest now.frames more

abbrev pub Holds : (first now : Framing) (text made : List ℕ) → Type 0
Holds first now text made = (passed : List ℕ) × annotating.Holds first.pass now.pass passed made × HasPassed first now text passed

abbrev pub IsDone : (first now : Framing) (ended : Bool) (text made : List ℕ) → Type 0
IsDone first now ended text made = annotating.IsDone first.pass now.pass ended (with_frames first text) made

abbrev pub MayBreakOff : (first : Framing) (text made : List ℕ) → Type 0
MayBreakOff first text made = annotating.MayBreakOff first.pass (with_frames first text) made
