use Rattle.std.proofs.Common.{List, [], Option, refl, subst, sym}
use Rattle.std.specs.Option.{option_map}
use Rattle.binfarce_words.specs.WordViews.{given_view}
use Rattle.binfarce_jobs.specs.Files.{Refused, Reports}
use Rattle.binfarce_jobs.proofs.FileLoop.{reports_more}
use Rattle.binfarce_calls.specs.Placing.{Opens, base_for, file_at, lacks_bytes}
use Rattle.binfarce_calls.proofs.Placings.{not_placed, placed_at, placed_base, placed_by_none}
use Rattle.binfarce_calls.proofs.at.read_file.Goals as goal

pub returns-after-is_alone : goal.returns-after-is_alone
returns-after-is_alone g c =
    let given = given_view c.args.given.now.words.now in
    let before = g.Y.System.reports c.args.system.now in
    let between = g.Y.System.reports c.open_at.new.system in
    let mid = g.Y.System.reports c.tables_for.new.system in
    let opened = subst (Opens (file_at given c.args.place) before between) c.in-Some.is c.in_ok-opened.ensures in
    let read = reports_more before between mid [] [] opened (subst (Opens c.file_at.result.now between mid) c.in-Some-2.is c.in_ok-tables.ensures.reports) in
    let known = base_for given (option_map (λ m. m.now) c.args.given.now.maps) c.args.place c.in-Some.opened.loaded in
    let lacks = lacks_bytes given c.in-Some.opened.loaded in
    let based = placed_base given c.args.place mid (g.Y.System.reports c.place_at.new.system) lacks known c.in-At.base c.in-At.ensures in
    (refl, subst (λ (after : Option (List Refused)). Reports before after []) (sym (placed_at given c.args.place mid (g.Y.System.reports c.place_at.new.system) lacks known c.in-At.base c.in-At.ensures)) read, based.0, based.1)

pub returns-in-Refused : goal.returns-in-Refused
returns-in-Refused g c =
    let given = given_view c.args.given.now.words.now in
    let before = g.Y.System.reports c.args.system.now in
    let between = g.Y.System.reports c.open_at.new.system in
    let mid = g.Y.System.reports c.tables_for.new.system in
    let opened = subst (Opens (file_at given c.args.place) before between) c.in-Some.is c.in_ok-opened.ensures in
    let read = reports_more before between mid [] [] opened (subst (Opens c.file_at.result.now between mid) c.in-Some-2.is c.in_ok-tables.ensures.reports) in
    let known = base_for given (option_map (λ m. m.now) c.args.given.now.maps) c.args.place c.in-Some.opened.loaded in
    let lacks = lacks_bytes given c.in-Some.opened.loaded in
    let refused = not_placed given c.args.place mid (g.Y.System.reports c.place_at.new.system) lacks known c.in-Refused.ensures in
    (refused.0, reports_more before mid (g.Y.System.reports c.place_at.new.system) [] _ read refused.1)

pub returns-in-NoMaps : goal.returns-in-NoMaps
returns-in-NoMaps g c =
    let given = given_view c.args.given.now.words.now in
    let before = g.Y.System.reports c.args.system.now in
    let between = g.Y.System.reports c.open_at.new.system in
    let mid = g.Y.System.reports c.tables_for.new.system in
    let opened = subst (Opens (file_at given c.args.place) before between) c.in-Some.is c.in_ok-opened.ensures in
    let read = reports_more before between mid [] [] opened (subst (Opens c.file_at.result.now between mid) c.in-Some-2.is c.in_ok-tables.ensures.reports) in
    let known = base_for given (option_map (λ m. m.now) c.args.given.now.maps) c.args.place c.in-Some.opened.loaded in
    let lacks = lacks_bytes given c.in-Some.opened.loaded in
    subst (λ (after : Option (List Refused)). Reports before after []) (sym (placed_by_none given c.args.place mid (g.Y.System.reports c.place_at.new.system) lacks known c.in-NoMaps.ensures)) read
