-- Offsets into modules in a text.
use Rattle.std.specs.Prelude.{◌≡◌, ℕ, ◌-◌, Bool, true, false, List, ◌&&◌, ◌||◌, codes, length, nat_eq, take, if◌then◌else◌}
use Rattle.std.proofs.Common.{refl}
use Rattle.std.specs.List.{ends_with}
use Rattle.binfarce_logs.specs.Maps.{name_of}

-- a word may begin after this text: it is empty, or ends with a blank, a tab or a line feed
abbrev pub may_begin_word : (text : List ℕ) → Bool
may_begin_word text = nat_eq (length text) 0 || (ends_with nat_eq text (codes " ") || (ends_with nat_eq text (codes "\t") || ends_with nat_eq text (codes "\n")))

-- a path may begin after this text, or go on: a word may, or it ends with `/` or `[`
abbrev pub may_begin_path : (text : List ℕ) → Bool
may_begin_path text = may_begin_word text || (ends_with nat_eq text (codes "/") || ends_with nat_eq text (codes "["))

-- the text ends with this name, as a word by itself
abbrev pub ends_with_word : (name text : List ℕ) → Bool
ends_with_word name text = ends_with nat_eq text name && may_begin_word (take (length text - length name) text)

-- the name of a module may begin after this text: a path may, or a parenthesis comes between
abbrev pub may_begin_name : (text : List ℕ) → Bool
may_begin_name text = may_begin_path text || (ends_with nat_eq text (codes "(") && may_begin_path (take (length text - 1) text))

-- the text ends with the name of this module
abbrev pub ends_with_name : (name text : List ℕ) → Bool
ends_with_name name text = ends_with nat_eq text name && may_begin_name (take (length text - length name) text)

-- the text ends with the name of this module, and a mark
abbrev pub ends_with_mark : (name mark text : List ℕ) → Bool
ends_with_mark name mark text = ends_with nat_eq text mark && ends_with_name name (take (length text - length mark) text)

-- an offset into this module comes after the text: it ends with `NAME+`, `NAME(+` or `NAME + `
abbrev pub names_module : (name text : List ℕ) → Bool
names_module name text = ends_with_mark name (codes "+") text || (ends_with_mark name (codes "(+") text || ends_with_mark name (codes " + ") text)

-- how many bytes the name of the file of this path has that is before an offset, which comes after the text: that of the path, or else that of the name behind its last `/`. 0 if neither is there
abbrev pub name_len : (path text : List ℕ) → ℕ
name_len path text = if names_module path text then length path else if names_module (name_of path) text then length (name_of path) else 0

-- an offset after the text may be one into a function of this name: the text ends with the name, as a word by itself, and `+`
abbrev pub names_symbol : (name text : List ℕ) → Bool
names_symbol name text = ends_with nat_eq text (codes "+") && ends_with_word name (take (length text - 1) text)

-- an offset comes after the text
abbrev pub ends_with_plus : (text : List ℕ) → Bool
ends_with_plus text = ends_with nat_eq text (codes "+") || ends_with nat_eq text (codes "+ ")

-- the text before an offset: by `backtrace_symbols` of glibc
worked_glibc : names_module (codes "libc.so.6") (codes "/lib/x86_64-linux-gnu/libc.so.6(+") ≡ true
worked_glibc = refl

-- where it names a function, the offset is one into that
worked_function : names_module (codes "main") (codes "./main(main+") ≡ false
worked_function = refl

-- by AddressSanitizer
worked_asan : names_module (codes "libc.so.6") (codes "    #1 0x7f5a0c82724a  (/lib/x86_64-linux-gnu/libc.so.6+") ≡ true
worked_asan = refl

-- the same at the beginning of a line
worked_first : names_module (codes "libc.so.6") (codes "\n(libc.so.6+") ≡ true
worked_first = refl

-- by systemd-coredump
worked_systemd : names_module (codes "libc.so.6") (codes "#1  0x00007f5a0c82724a n/a (libc.so.6 + ") ≡ true
worked_systemd = refl

-- by the Java virtual machine
worked_java : names_module (codes "libjvm.so") (codes "V  [libjvm.so+") ≡ true
worked_java = refl

-- another module, whose name ends alike
worked_longer : names_module (codes "c.so") (codes "/lib/libc.so(+") ≡ false
worked_longer = refl

-- by perf, an offset into a function
worked_perf : names_symbol (codes "main") (codes "            558bcaf8e298 main+") ≡ true
worked_perf = refl

-- by others, one into the file of that name
worked_below : names_symbol (codes "main") (codes "./main+") ≡ false
worked_below = refl

worked_bracket : names_symbol (codes "main") (codes "C  [main+") ≡ false
worked_bracket = refl

worked_within : names_symbol (codes "main") (codes "(main+") ≡ false
worked_within = refl

worked_before : names_symbol (codes "main") (codes "main(+") ≡ false
worked_before = refl

worked_blanks : names_symbol (codes "main") (codes "n/a (main + ") ≡ false
worked_blanks = refl

-- a path is longer than the name in it
worked_path : name_len (codes "b/plugin.so") (codes "/x/b/plugin.so(+") ≡ 11
worked_path = refl

worked_name : name_len (codes "b/plugin.so") (codes "/x/a/plugin.so(+") ≡ 9
worked_name = refl

worked_neither : name_len (codes "b/plugin.so") (codes "libc.so.6(+") ≡ 0
worked_neither = refl
