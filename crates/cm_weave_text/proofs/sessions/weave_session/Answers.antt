use Rattle.std.proofs.Common.{◌<◌, ℕ, List, length, take, refl, sym, subst}
use Rattle.std.proofs.lemmas.Bool.{false≢true}
use Rattle.std.specs.Io.KnownBytes.{Appends}
use Rattle.cm_exchange.specs.Lanes.{Exchange}
use Rattle.cm_exchange.specs.Worlds.{IsFinished}
use Rattle.cm_weave_text.specs.Hearing.{exchange_in}
use Rattle.cm_weave_text.proofs.Pieces.{exchange_kept}
use Rattle.cm_weave_text.proofs.Texts.{finished-text, unfinished-text}
use Rattle.cm_weave_text.proofs.Ending.{ends_finished, ends_unfinished, ends_before_finished, ends_before_unfinished}
use Rattle.cm_weave_text.proofs.Ending.{some_finished, some_unfinished, some_before_finished, some_before_unfinished}
use Rattle.cm_weave_text.proofs.sessions.weave_session.Goals as goal

pub returns-in-Ok-write_all-clause-finished : goal.returns-in-Ok-write_all-clause-finished
returns-in-Ok-write_all-clause-finished g c = λ ok.
    let same = exchange_kept g.S.Sizes.n g.S.Sizes.cap c.args.world c.hear_all.new.world c.hear_all.ensures.run in
    ends_finished (exchange_in g.S.Sizes.n g.S.Sizes.cap c.args.world) c.args.world.world c.hear_all.new.world.world _ _ _
    (g.I.Source.left c.hear_all.new.steps) (g.O.Sink.contents c.write_all.new.sink) c.in-Ok.sent c.in-Ok.ensures.ok
    (subst (λ (e : Exchange). IsFinished e c.hear_all.new.world.world) same (c.in-Ok-finish.ensures.finished.0 refl))
    (subst (λ (xs : List ℕ). Appends (g.O.Sink.contents c.hear_all.new.out) (g.O.Sink.contents c.write_all.new.sink) xs)
    finished-text c.in-Ok-write_all.ensures.ok)

pub returns-in-Err-write_all-clause-err : goal.returns-in-Err-write_all-clause-err
returns-in-Err-write_all-clause-err g c =
    let same = exchange_kept g.S.Sizes.n g.S.Sizes.cap c.args.world c.hear_all.new.world c.hear_all.ensures.run in
    let cut = c.in-Err-write_all.ensures.err in
    ends_before_finished (exchange_in g.S.Sizes.n g.S.Sizes.cap c.args.world) c.args.world.world c.hear_all.new.world.world _ _ _
    (g.I.Source.left c.hear_all.new.steps) (g.O.Sink.contents c.write_all.new.sink) c.in-Ok.sent c.in-Ok.ensures.ok
    c.in-Err-write_all.fault.0
    (subst (λ (e : Exchange). IsFinished e c.hear_all.new.world.world) same (c.in-Ok-finish.ensures.finished.0 refl))
    (subst (λ (xs : List ℕ). c.in-Err-write_all.fault.0 < length xs) finished-text cut.0)
    (subst (λ (xs : List ℕ). Appends (g.O.Sink.contents c.hear_all.new.out) (g.O.Sink.contents c.write_all.new.sink)
    (take c.in-Err-write_all.fault.0 xs)) finished-text cut.1)

pub returns-in-Ok-write_all-2-clause-err : goal.returns-in-Ok-write_all-2-clause-err
returns-in-Ok-write_all-2-clause-err g c =
    let same = exchange_kept g.S.Sizes.n g.S.Sizes.cap c.args.world c.hear_all.new.world c.hear_all.ensures.run in
    ends_unfinished (exchange_in g.S.Sizes.n g.S.Sizes.cap c.args.world) c.args.world.world c.hear_all.new.world.world _ _ _
    (g.I.Source.left c.hear_all.new.steps) (g.O.Sink.contents c.write_all-in-Err-finish.new.sink) c.in-Ok.sent c.in-Ok.ensures.ok
    (λ finished. false≢true (c.in-Err-finish.ensures.finished.1
    (subst (λ (e : Exchange). IsFinished e c.hear_all.new.world.world) (sym same) finished)))
    (subst (λ (xs : List ℕ). Appends (g.O.Sink.contents c.hear_all.new.out) (g.O.Sink.contents c.write_all-in-Err-finish.new.sink)
    xs) unfinished-text c.in-Ok-write_all-2.ensures.ok)

pub returns-in-Err-write_all-2-clause-err : goal.returns-in-Err-write_all-2-clause-err
returns-in-Err-write_all-2-clause-err g c =
    let same = exchange_kept g.S.Sizes.n g.S.Sizes.cap c.args.world c.hear_all.new.world c.hear_all.ensures.run in
    let cut = c.in-Err-write_all-2.ensures.err in
    ends_before_unfinished (exchange_in g.S.Sizes.n g.S.Sizes.cap c.args.world) c.args.world.world c.hear_all.new.world.world _ _
    _ (g.I.Source.left c.hear_all.new.steps) (g.O.Sink.contents c.write_all-in-Err-finish.new.sink) c.in-Ok.sent c.in-Ok.ensures.ok
    c.in-Err-write_all-2.fault.0
    (λ finished. false≢true (c.in-Err-finish.ensures.finished.1
    (subst (λ (e : Exchange). IsFinished e c.hear_all.new.world.world) (sym same) finished)))
    (subst (λ (xs : List ℕ). c.in-Err-write_all-2.fault.0 < length xs) unfinished-text cut.0)
    (subst (λ (xs : List ℕ). Appends (g.O.Sink.contents c.hear_all.new.out) (g.O.Sink.contents c.write_all-in-Err-finish.new.sink)
    (take c.in-Err-write_all-2.fault.0 xs)) unfinished-text cut.1)

pub returns-in-Ok-write_all-clause-heard : goal.returns-in-Ok-write_all-clause-heard
returns-in-Ok-write_all-clause-heard g c =
    let same = exchange_kept g.S.Sizes.n g.S.Sizes.cap c.args.world c.hear_all.new.world c.hear_all.ensures.run in
    some_finished (exchange_in g.S.Sizes.n g.S.Sizes.cap c.args.world) c.args.world.world c.hear_all.new.world.world _ _ _ _
    (g.O.Sink.contents c.write_all.new.sink) c.in-Ok.sent c.in-Ok.ensures.heard
    (subst (λ (e : Exchange). IsFinished e c.hear_all.new.world.world) same (c.in-Ok-finish.ensures.finished.0 refl))
    (subst (λ (xs : List ℕ). Appends (g.O.Sink.contents c.hear_all.new.out) (g.O.Sink.contents c.write_all.new.sink) xs)
    finished-text c.in-Ok-write_all.ensures.ok)

pub returns-in-Err-write_all-clause-heard : goal.returns-in-Err-write_all-clause-heard
returns-in-Err-write_all-clause-heard g c =
    let same = exchange_kept g.S.Sizes.n g.S.Sizes.cap c.args.world c.hear_all.new.world c.hear_all.ensures.run in
    let cut = c.in-Err-write_all.ensures.err in
    some_before_finished (exchange_in g.S.Sizes.n g.S.Sizes.cap c.args.world) c.args.world.world c.hear_all.new.world.world _ _
    _ _ (g.O.Sink.contents c.write_all.new.sink) c.in-Ok.sent c.in-Ok.ensures.heard c.in-Err-write_all.fault.0
    (subst (λ (e : Exchange). IsFinished e c.hear_all.new.world.world) same (c.in-Ok-finish.ensures.finished.0 refl))
    (subst (λ (xs : List ℕ). c.in-Err-write_all.fault.0 < length xs) finished-text cut.0)
    (subst (λ (xs : List ℕ). Appends (g.O.Sink.contents c.hear_all.new.out) (g.O.Sink.contents c.write_all.new.sink)
    (take c.in-Err-write_all.fault.0 xs)) finished-text cut.1)

pub returns-in-Ok-write_all-2-clause-heard : goal.returns-in-Ok-write_all-2-clause-heard
returns-in-Ok-write_all-2-clause-heard g c =
    let same = exchange_kept g.S.Sizes.n g.S.Sizes.cap c.args.world c.hear_all.new.world c.hear_all.ensures.run in
    some_unfinished (exchange_in g.S.Sizes.n g.S.Sizes.cap c.args.world) c.args.world.world c.hear_all.new.world.world _ _ _ _
    (g.O.Sink.contents c.write_all-in-Err-finish.new.sink) c.in-Ok.sent c.in-Ok.ensures.heard
    (λ finished. false≢true (c.in-Err-finish.ensures.finished.1
    (subst (λ (e : Exchange). IsFinished e c.hear_all.new.world.world) (sym same) finished)))
    (subst (λ (xs : List ℕ). Appends (g.O.Sink.contents c.hear_all.new.out) (g.O.Sink.contents c.write_all-in-Err-finish.new.sink)
    xs) unfinished-text c.in-Ok-write_all-2.ensures.ok)

pub returns-in-Err-write_all-2-clause-heard : goal.returns-in-Err-write_all-2-clause-heard
returns-in-Err-write_all-2-clause-heard g c =
    let same = exchange_kept g.S.Sizes.n g.S.Sizes.cap c.args.world c.hear_all.new.world c.hear_all.ensures.run in
    let cut = c.in-Err-write_all-2.ensures.err in
    some_before_unfinished (exchange_in g.S.Sizes.n g.S.Sizes.cap c.args.world) c.args.world.world c.hear_all.new.world.world _ _
    _ _ (g.O.Sink.contents c.write_all-in-Err-finish.new.sink) c.in-Ok.sent c.in-Ok.ensures.heard
    c.in-Err-write_all-2.fault.0
    (λ finished. false≢true (c.in-Err-finish.ensures.finished.1
    (subst (λ (e : Exchange). IsFinished e c.hear_all.new.world.world) (sym same) finished)))
    (subst (λ (xs : List ℕ). c.in-Err-write_all-2.fault.0 < length xs) unfinished-text cut.0)
    (subst (λ (xs : List ℕ). Appends (g.O.Sink.contents c.hear_all.new.out) (g.O.Sink.contents c.write_all-in-Err-finish.new.sink)
    (take c.in-Err-write_all-2.fault.0 xs)) unfinished-text cut.1)
