-- Where debug files are: names in debug links, and pieces of a text that are joined.
use Rattle.std.proofs.Common.{◌≡◌, ◌∙◌, ℕ, ◌<◌, true, List, ◌++◌, Option, Some, ap, append_assoc, codes, drop, sym, arith}
use Rattle.std.proofs.lemmas.Bool.Decides.{nat_tests}
use Rattle.std.proofs.lemmas.List.Elements.{All-weaker}
use Rattle.std.proofs.lemmas.List.Sums.{AllPass-from_list_all}
use Rattle.std.proofs.lemmas.Str.{IsUtf8-from_ascii}
use Rattle.std.proofs.lemmas.Str.Ascii.{IsAscii-from_all}
use Rattle.std.specs.Char.{is_ascii_graphic}
use Rattle.std.specs.List.{list_all}
use Rattle.std.specs.Str.{IsUtf8}
use Rattle.std.specs.Option.{option_map}
use Rattle.binfarce_jobs.specs.Hints.{debug_by, debug_in, debug_path, link_part, section_in}

graphic_is_ascii : (b : ℕ) → is_ascii_graphic b ≡ true → b < 128
graphic_is_ascii b is = grind (arith, nat_tests)

-- printable ASCII is text
pub graphic_is_utf8 : (name : List ℕ) → list_all is_ascii_graphic name ≡ true → IsUtf8 name
graphic_is_utf8 name is =
    IsUtf8-from_ascii name (IsAscii-from_all name (All-weaker (λ b. is_ascii_graphic b ≡ true) (λ b. b < 128) graphic_is_ascii name (AllPass-from_list_all is_ascii_graphic name is)))

pub five_joined : (a b c d e : List ℕ) → (((a ++ b) ++ c) ++ d) ++ e ≡ a ++ (b ++ (c ++ (d ++ e)))
five_joined a b c d e = append_assoc ((a ++ b) ++ c) d e ∙ append_assoc (a ++ b) c (d ++ e) ∙ append_assoc a b (c ++ (d ++ e))

-- where the debug symbols of a file may be, by its sections
pub debug_is : (file note path : List ℕ) (link : Option (List ℕ)) → section_in file (codes ".note.gnu.build-id") ≡ Some note → Some path ≡ debug_path (drop 16 note) → section_in file (codes ".gnu_debuglink") ≡ link → debug_in file ≡ Some (path ++ link_part link)
debug_is file note path link noted placed linked =
    ap (λ (n : Option (List ℕ)). debug_by n (section_in file (codes ".gnu_debuglink"))) noted ∙ ap (λ (l : Option (List ℕ)). debug_by (Some note) l) linked
    ∙ ap (λ (p : Option (List ℕ)). option_map (λ (path : List ℕ). path ++ link_part link) p) (sym placed)
