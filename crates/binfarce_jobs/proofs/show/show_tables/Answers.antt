use Rattle.std.proofs.Common.{Some, None, ap, map, nat_eq, refl, sym, subst}
use Rattle.binfarce_limits.specs.Rows.{finding_view, limit_view}
use Rattle.binfarce_rows.specs.Json.{style_of}
use Rattle.binfarce_tools.specs.Answer.{selected_answer}
use Rattle.binfarce_tools.specs.Writing.{Outcome, Takes, written}
use Rattle.binfarce_jobs.specs.Show.{IsSeenOf, IsTextOf}
use Rattle.binfarce_jobs.specs.declared.show.Kind.{Kind}
use Rattle.binfarce_jobs.specs.declared.show.Kind.TheVariants.{Listing, Rows, Figures, Picture, Stacks}
use Rattle.binfarce_jobs.proofs.Shown.{list_in, report_in}
use Rattle.binfarce_jobs.proofs.show.show_tables.Goals as goal

pub returns-in_err-list_selected-in-Listing-clause-takes : goal.returns-in_err-list_selected-in-Listing-clause-takes
returns-in_err-list_selected-in-Listing-clause-takes g c = λ which file section are.
    list_in (λ (k : Kind) (o : Outcome). Takes (IsTextOf k c.args.path.now (style_of c.args.form)) (selected_answer which section file) (g.K.Sink.taken c.args.out.now) (g.K.Sink.taken c.list_selected.new.out) o) c.args.kind Listing c.in-Listing.is c.in_err-list_selected-in-Listing.field-0.0 c.from_residual-in_err-list_selected-in-Listing.result c.from_residual-in_err-list_selected-in-Listing.ensures.1
    (c.in_err-list_selected-in-Listing.ensures.takes which file section are (c.in_ok-selected-in-Listing.ensures.gets which file section are))

pub returns-in_err-found-in-Rows-clause-takes : goal.returns-in_err-found-in-Rows-clause-takes
returns-in_err-found-in-Rows-clause-takes g c = λ which file section are.
    list_in (λ (k : Kind) (o : Outcome). Takes (IsTextOf k c.args.path.now (style_of c.args.form)) (selected_answer which section file) (g.K.Sink.taken c.args.out.now) (g.K.Sink.taken c.list_by.new.out) o) c.args.kind (Rows c.in-Rows.shown) c.in-Rows.is c.in_err-found-in-Rows.field-0.0 c.from_residual-in_err-found-in-Rows.result c.from_residual-in_err-found-in-Rows.ensures.1
    (c.in_err-found-in-Rows.ensures.takes which file section are)

pub returns-in_ok-found-in-Rows-clause-takes : goal.returns-in_ok-found-in-Rows-clause-takes
returns-in_ok-found-in-Rows-clause-takes g c = λ which file section are.
    subst (λ (k : Kind). Takes (IsTextOf k c.args.path.now (style_of c.args.form)) (selected_answer which section file) (g.K.Sink.taken c.args.out.now) (g.K.Sink.taken c.list_by.new.out) written) (sym c.in-Rows.is)
    (c.in_ok-found-in-Rows.ensures.takes which file section are)

pub returns-in_err-sums-in-Figures-clause-takes : goal.returns-in_err-sums-in-Figures-clause-takes
returns-in_err-sums-in-Figures-clause-takes g c = λ which file section are.
    report_in (λ (k : Kind) (o : Outcome). Takes (IsTextOf k c.args.path.now (style_of c.args.form)) (selected_answer which section file) (g.K.Sink.taken c.args.out.now) (g.K.Sink.taken c.sum_by.new.out) o) c.args.kind (Figures c.in-Figures.figures) c.in-Figures.is c.in_err-sums-in-Figures.field-0.0 c.from_residual-in_err-sums-in-Figures.result c.from_residual-in_err-sums-in-Figures.ensures.1
    (c.in_err-sums-in-Figures.ensures.takes which file section (c.in_ok-claims-in-Figures.ensures.made which file section are))

pub returns-in_ok-sums-in-Figures-clause-takes : goal.returns-in_ok-sums-in-Figures-clause-takes
returns-in_ok-sums-in-Figures-clause-takes g c = λ which file section are.
    subst (λ (k : Kind). Takes (IsTextOf k c.args.path.now (style_of c.args.form)) (selected_answer which section file) (g.K.Sink.taken c.args.out.now) (g.K.Sink.taken c.sum_by.new.out) written) (sym c.in-Figures.is)
    (c.in_ok-sums-in-Figures.ensures.takes which file section (c.in_ok-claims-in-Figures.ensures.made which file section are))

pub returns-in_err-map_by-in-Picture-clause-takes : goal.returns-in_err-map_by-in-Picture-clause-takes
returns-in_err-map_by-in-Picture-clause-takes g c = λ which file section are.
    report_in (λ (k : Kind) (o : Outcome). Takes (IsTextOf k c.args.path.now (style_of c.args.form)) (selected_answer which section file) (g.K.Sink.taken c.args.out.now) (g.K.Sink.taken c.map_by.new.out) o) c.args.kind (Picture c.in-Picture.grouping c.in-Picture.first) c.in-Picture.is c.in_err-map_by-in-Picture.field-0.0 c.from_residual-in_err-map_by-in-Picture.result c.from_residual-in_err-map_by-in-Picture.ensures.1
    (c.in_err-map_by-in-Picture.ensures.takes which file section (c.in_ok-claims-in-Picture.ensures.made which file section are))

pub returns-in_ok-map_by-in-Picture-clause-takes : goal.returns-in_ok-map_by-in-Picture-clause-takes
returns-in_ok-map_by-in-Picture-clause-takes g c = λ which file section are.
    subst (λ (k : Kind). Takes (IsTextOf k c.args.path.now (style_of c.args.form)) (selected_answer which section file) (g.K.Sink.taken c.args.out.now) (g.K.Sink.taken c.map_by.new.out) written) (sym c.in-Picture.is)
    (c.in_ok-map_by-in-Picture.ensures.takes which file section (c.in_ok-claims-in-Picture.ensures.made which file section are))

pub returns-in_err-fold_claims-in-Stacks-clause-takes : goal.returns-in_err-fold_claims-in-Stacks-clause-takes
returns-in_err-fold_claims-in-Stacks-clause-takes g c = λ which file section are.
    report_in (λ (k : Kind) (o : Outcome). Takes (IsTextOf k c.args.path.now (style_of c.args.form)) (selected_answer which section file) (g.K.Sink.taken c.args.out.now) (g.K.Sink.taken c.fold_claims.new.out) o) c.args.kind (Stacks c.in-Stacks.joins_std) c.in-Stacks.is c.in_err-fold_claims-in-Stacks.field-0.0 c.from_residual-in_err-fold_claims-in-Stacks.result c.from_residual-in_err-fold_claims-in-Stacks.ensures.1
    (c.in_err-fold_claims-in-Stacks.ensures.takes which file section (c.in_ok-claims-in-Stacks.ensures.made which file section are))

pub returns-in_ok-fold_claims-in-Stacks-clause-takes : goal.returns-in_ok-fold_claims-in-Stacks-clause-takes
returns-in_ok-fold_claims-in-Stacks-clause-takes g c = λ which file section are.
    subst (λ (k : Kind). Takes (IsTextOf k c.args.path.now (style_of c.args.form)) (selected_answer which section file) (g.K.Sink.taken c.args.out.now) (g.K.Sink.taken c.fold_claims.new.out) written) (sym c.in-Stacks.is)
    (c.in_ok-fold_claims-in-Stacks.ensures.takes which file section (c.in_ok-claims-in-Stacks.ensures.made which file section are))

pub returns-in_ok-sums-in-Figures-clause-seen : goal.returns-in_ok-sums-in-Figures-clause-seen
returns-in_ok-sums-in-Figures-clause-seen g c = λ which file section selected are answer.
    let claims = c.in_ok-claims-in-Figures.ensures.made which file section are in
    let sums = c.in_ok-sums-in-Figures.sums in
    let rows = c.in_ok-rows-in-Figures.rows in
    subst (λ (k : Kind). IsSeenOf k (map limit_view c.args.limits.now) selected (record { is_empty = c.is_empty.result; sums = Some sums; rows = rows })) (sym c.in-Figures.is)
    (record {
      empty_is = c.is_empty.ensures.file which file section selected claims answer;
      sums_are = (sums, refl, c.in_ok-sums-in-Figures.ensures.sums which file section selected claims answer);
      rows_are = c.in_ok-rows-in-Figures.ensures which file section selected claims answer;
    })

pub returns-in_ok-found-in-Rows-clause-seen : goal.returns-in_ok-found-in-Rows-clause-seen
returns-in_ok-found-in-Rows-clause-seen g c = λ which file section selected are answer.
    subst (λ (k : Kind). IsSeenOf k (map limit_view c.args.limits.now) selected (record { is_empty = nat_eq c.in_ok-found-in-Rows.found 0; sums = None; rows = c.new-in-Rows.result })) (sym c.in-Rows.is)
    (record { empty_is = ap (λ n. nat_eq n 0) (c.in_ok-found-in-Rows.ensures.count which file section selected are answer); sums_are = refl; rows_are = ap (map finding_view) c.new-in-Rows.ensures.items })
