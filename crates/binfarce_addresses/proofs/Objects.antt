-- The answers of addresses as objects.
use Rattle.std.proofs.Common.{◌≡◌, ℕ, ◌++◌, [], List, Option, Some, None, sym, ap, subst, ◌∙◌, append-nil, append_assoc}
use Rattle.binfarce.specs.Symbol.{Entry}
use Rattle.binfarce_rows.specs.Json as json
use Rattle.binfarce_addresses.specs.Lines.{answer_object, IsSymbolOf}
use Rattle.binfarce_addresses.specs.Stream.{IsAnswerIn}
use Rattle.binfarce_addresses.specs.declared.lookup.Lookup.{Lookup}
use Rattle.binfarce_addresses.specs.machine.Places.{IsFoundFor, IsSymbolAt}

pub object_answer : (file : List ℕ) (entries : List Entry) (lookup : Lookup) (address : Option ℕ) (found : Option (ℕ × ℕ)) (symbol : Option (List ℕ × ℕ)) (text : List ℕ) → IsFoundFor entries lookup address found → IsSymbolAt entries found symbol
    → text ≡ answer_object file address symbol → IsAnswerIn (json.objects file []) entries lookup address text
object_answer file entries lookup None found symbol text nothing is same =
    let none : symbol ≡ None = subst (λ (o : Option (ℕ × ℕ)). IsSymbolAt entries o symbol) nothing is in
    same ∙ ap (answer_object file None) none
object_answer file entries lookup (Some address) None symbol text none is same =
    let P : Option (Entry × ℕ) → Type 0 = λ o. IsSymbolOf o symbol in
    (symbol, subst P (sym none) is, same)
object_answer file entries lookup (Some address) (Some found) symbol text (entry, held, at) (name, named, is) same =
    let shown = named entry at in
    let P : Option (Entry × ℕ) → Type 0 = λ o. IsSymbolOf o symbol in
    let symbol_is = is ∙ ap (λ (n : List ℕ). Some (n, found.1)) shown.2 in
    (symbol, subst P (sym held) (shown.0, shown.1, symbol_is), same)

-- four parts, one after the other
pub joined : (a b c d none one two three four : List ℕ) → none ≡ [] → one ≡ none ++ a → two ≡ one ++ b → three ≡ two ++ c → four ≡ three ++ d → four ≡ a ++ (b ++ (c ++ (d ++ [])))
joined a b c d none one two three four e0 e1 e2 e3 e4 = rw (e4, e3, e2, e1, e0) (simp (append_assoc, append-nil))
