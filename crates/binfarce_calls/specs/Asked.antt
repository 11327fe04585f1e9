-- What a call asks for, by its options.
use Rattle.std.specs.Prelude.{ℕ, Bool, true, false, not, ◌&&◌, ◌||◌, List, [], codes, Option, Some, None, is_some, unwrap_or, if◌then◌else◌}
use Rattle.std.specs.Option.{option_map}
use Rattle.binfarce_tools.specs.declared.SymbolTable.{SymbolTable}
use Rattle.binfarce_tools.specs.declared.SymbolTable.TheVariants.{Symtab, Dynsym}
use Rattle.binfarce_figures.specs.declared.key.Grouping.{Grouping}
use Rattle.binfarce_figures.specs.declared.key.Key.{Key}
use Rattle.binfarce_figures.specs.declared.key.Key.TheVariants as keys
use Rattle.binfarce_figures.specs.declared.order.Order.{Order}
use Rattle.binfarce_figures.specs.declared.order.Order.TheVariants as orders
use Rattle.binfarce_figures.specs.declared.rows.Naming.{Naming}
use Rattle.binfarce_figures.specs.declared.rows.Naming.TheVariants.{Trimmed, Complete, Stored}
use Rattle.binfarce_figures.specs.declared.rows.Shown.{Shown}
use Rattle.binfarce_figures.specs.declared.sums.Figures.{Figures}
use Rattle.binfarce_rows.specs.Json.{Style, lines, objects}
use Rattle.binfarce_words.specs.Words.{Arguments, count_given, key_given, order_given, value_given}
use Rattle.binfarce_words.specs.declared.command.Command.{Command}
use Rattle.binfarce_words.specs.declared.command.Command.TheVariants as commands
use Rattle.binfarce_words.specs.declared.flag.Flag.{Flag}
use Rattle.binfarce_words.specs.declared.flag.Flag.TheVariants as flags
use Rattle.binfarce_words.specs.declared.takes.Key as key_words
use Rattle.binfarce_words.specs.declared.takes.Key.TheVariants as named_keys
use Rattle.binfarce_words.specs.declared.takes.Order as order_words
use Rattle.binfarce_words.specs.declared.takes.Order.TheVariants as named_orders
use Rattle.binfarce_jobs.specs.declared.show.Kind.{Kind}
use Rattle.binfarce_jobs.specs.declared.show.Kind.TheVariants as kinds

-- an option is given
abbrev pub has : Flag → Arguments → Bool
has flag given = is_some (value_given flag given)

-- the symbol table that is read
abbrev pub table_asked : Arguments → SymbolTable
table_asked given = if has flags.Dynamic given then Dynsym else Symtab

-- the order of lines that is named
abbrev pub order_for : order_words.Order → Order
order_for named_orders.Address = orders.Address
order_for named_orders.Size = orders.Size
order_for named_orders.Name = orders.Name

abbrev pub order_asked : Arguments → Option Order
order_asked given = option_map order_for (order_given given)

-- the key of sums that is named
abbrev pub key_for : key_words.Key → Key
key_for named_keys.Crate = keys.Crate
key_for named_keys.Function = keys.Function
key_for named_keys.Generic = keys.Generic
key_for named_keys.Module = keys.Module
key_for named_keys.Section = keys.Section

abbrev pub key_asked : Arguments → Option Key
key_asked given = option_map key_for (key_given given)

-- all sections are taken by default, and for sums by section
abbrev pub all_unnamed : (are_all : Bool) → Option Key → Bool
all_unnamed are_all (Some keys.Section) = true
all_unnamed are_all key = are_all

-- the section that is named; else all or `.text`
abbrev pub section_or : (are_all : Bool) → (named : Option (List ℕ)) → Option (List ℕ)
section_or are_all (Some name) = Some name
section_or true None = None
section_or false None = Some (codes ".text")

-- the section whose function symbols are taken; none where those of all sections are
abbrev pub section_asked : (are_all : Bool) → Arguments → Option (List ℕ)
section_asked are_all given = if has flags.All given then None else section_or (all_unnamed are_all (key_asked given)) (value_given flags.Section given)

-- what is shown of a name
abbrev pub naming_asked : Arguments → Naming
naming_asked given = if has flags.Raw given then Stored else (if has flags.Full given then Complete else Trimmed)

-- lines are sorted, or left out
abbrev pub is_cut : Arguments → Bool
is_cut given = (has flags.Sort given || has flags.First given) || has flags.NoTotal given

abbrev pub shown_asked : Arguments → Shown
shown_asked given = record { order = order_asked given; first = count_given flags.First given; naming = naming_asked given; has_total = not (is_cut given) }

-- a listing, in its order and whole unless something else is asked for
abbrev pub listing_asked : Arguments → Kind
listing_asked given =
    if ((not (is_cut given) && not (has flags.Raw given)) && not (has flags.Full given)) && not (has flags.Json given) then kinds.Listing else kinds.Rows (shown_asked given)

-- what sizes are summed by: by crate, if nothing else is asked for
abbrev pub grouping_asked : Arguments → Grouping
grouping_asked given = record { key = unwrap_or (key_asked given) keys.Crate; joins_std = has flags.Std given }

abbrev pub figures_asked : Arguments → Figures
figures_asked given = record { grouping = grouping_asked given; first = count_given flags.First given; has_percent = has flags.Percent given }

-- a picture, or stacks
abbrev pub map_asked : Arguments → Kind
map_asked given = if has flags.Folded given then kinds.Stacks (has flags.Std given) else kinds.Picture (grouping_asked given) (count_given flags.First given)

-- what a command shows
abbrev pub kind_asked : Command → Arguments → Kind
kind_asked commands.List given = listing_asked given
kind_asked commands.Map given = map_asked given
kind_asked command given = kinds.Figures (figures_asked given)

-- how rows of the file at a path are written
abbrev pub style_asked : (path : List ℕ) → Arguments → Style
style_asked path given = if has flags.Json given then objects path [] else lines
