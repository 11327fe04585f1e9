-- The views of the forms that the code reads, for clauses: texts as their bytes.
use Rattle.std.specs.Prelude.{ℕ, Option}
use Rattle.std.specs.Option.{option_map}
use Rattle.binfarce_v0_grammar.specs.Identifiers
use Rattle.binfarce_v0_grammar.specs.Identifiers.{Identifier}
use Rattle.binfarce_v0_grammar.specs.Forms.{Signature, NoLifetime, InvalidLifetime, IndexedLifetime, NoTypeForm, FunctionOf, InvalidAbi, NoConstForm, UntypedPlaceholderConst, PlaceholderConst, ValueConst, InvalidConst, BackToConst}
use Rattle.binfarce_v0_grammar.specs.Forms as forms
use Rattle.binfarce_v0_grammar.specs.Tree as tree
use Rattle.binfarce_v0_grammar.specs.declared.forms.Listed as listed
use Rattle.binfarce_v0_grammar.specs.declared.forms.Listed.TheVariants as lists
use Rattle.binfarce_v0_grammar.specs.declared.identifiers.UndisambiguatedIdentifier as undisambiguated_identifier
use Rattle.binfarce_v0_grammar.specs.declared.identifiers.Identifier as identifier
use Rattle.binfarce_v0_grammar.specs.declared.forms.signature.Signature as signature
use Rattle.binfarce_v0_grammar.specs.declared.forms.Lifetime as lifetime
use Rattle.binfarce_v0_grammar.specs.declared.forms.Lifetime.TheVariants as lifetimes
use Rattle.binfarce_v0_grammar.specs.declared.forms.FunctionForm as function
use Rattle.binfarce_v0_grammar.specs.declared.forms.FunctionForm.TheVariants as functions
use Rattle.binfarce_v0_grammar.specs.declared.forms.consts.ConstValue as const_value
use Rattle.binfarce_v0_grammar.specs.declared.forms.consts.ConstValue.TheVariants as values
use Rattle.binfarce_v0_grammar.specs.declared.forms.consts.ConstForm as const
use Rattle.binfarce_v0_grammar.specs.declared.forms.consts.ConstForm.TheVariants as consts

abbrev pub undisambiguated_view : undisambiguated_identifier.UndisambiguatedIdentifier → Identifiers.UndisambiguatedIdentifier
undisambiguated_view i = record { ascii = i.ascii.now; punycode = i.punycode.now }

abbrev pub identifier_view : identifier.Identifier → Identifier
identifier_view l = record { disambiguator = l.disambiguator; name = undisambiguated_view l.name }

-- an identifier without its disambiguator, and the position after it
abbrev pub without_disambiguator : Option (Identifier × ℕ) → Option (Identifiers.UndisambiguatedIdentifier × ℕ)
without_disambiguator l = option_map (λ l. (l.0.name, l.1)) l

abbrev pub lifetime_view : lifetime.Lifetime → forms.Lifetime
lifetime_view lifetimes.Nothing = NoLifetime
lifetime_view lifetimes.Invalid = InvalidLifetime
lifetime_view (lifetimes.Indexed k) = IndexedLifetime k

abbrev pub signature_view : signature.Signature → Signature
signature_view s = record { binder = s.binder; is_unsafe = s.is_unsafe; abi = option_map (λ a. a.now) s.abi }

abbrev pub function_view : function.FunctionForm → forms.TypeForm
function_view functions.Nothing = NoTypeForm
function_view (functions.FunctionOf s q) = FunctionOf (signature_view s) q
function_view (functions.InvalidAbi binder) = InvalidAbi binder

abbrev pub value_view : const_value.ConstValue → forms.ConstValue
value_view (values.Integer negative digits) = forms.Integer negative digits.now
value_view (values.Boolean b) = forms.Boolean b
value_view (values.Character c) = forms.Character c

abbrev pub const_view : const.ConstForm → forms.ConstForm
const_view consts.Nothing = NoConstForm
const_view (consts.UntypedPlaceholder q) = UntypedPlaceholderConst q
const_view (consts.Placeholder text q) = PlaceholderConst text.now q
const_view (consts.Value text v q) = ValueConst text.now (value_view v) q
const_view (consts.Invalid negative text) = InvalidConst negative text.now
const_view (consts.Back target q) = BackToConst target q

abbrev pub listed_view : listed.Listed → tree.Listed
listed_view lists.Arguments = tree.Arguments
listed_view lists.Types = tree.Types
listed_view lists.Traits = tree.Traits
