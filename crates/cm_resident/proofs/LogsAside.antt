-- A machine that went through a run without its logs, and gets them back.
use Rattle.std.proofs.Common.{◌≡◌, ℕ, ◌+◌, ◌*◌, ◌<◌, ◌≤◌, ◌^◌, ◌++◌, List, [], length, ap, sym, subst, ◌∙◌, arith, ⊎_elim}
use Rattle.std.proofs.Common.{Result, Ok, Err}
use Rattle.std.specs.Prelude.{OnOk, OnErr}
use Rattle.std.proofs.lemmas.Bool.{cases_lt}
use Rattle.std.proofs.lemmas.List.{get_or_past}
use Rattle.cm_model.specs.declared.act.Act.{Act}
use Rattle.cm_model.specs.declared.message.Event.{Event}
use Rattle.cm_model.specs.Account.{account, newly_injected, SameLines}
use Rattle.cm_model.specs.Array.{nth_or_nil}
use Rattle.cm_model.specs.Keeping.{IsMachine}
use Rattle.cm_model.specs.Machine.{Machine, run_of}
use Rattle.cm_model.proofs.Each.{get_or-each_below}
use Rattle.cm_model.proofs.Keeping.{IsMachine-run_of}
use Rattle.cm_router.specs.Logs.{HaveLogRoom}
use Rattle.cm_array.specs.Acts.{cycles_in}
use Rattle.cm_array.specs.SavedLogs.{unlogged, logs_appended, TakeIn}
use Rattle.cm_array.proofs.Behind.{logs_are_never_read, few_events_are_told, logs_appended-unlogged, IsMachine-unlogged}
use Rattle.cm_resident.proofs.Ending.{account_after}

-- no log of a machine without its events has one
none_told : (n c : ℕ) (machine : Machine) → c < 2 ^ n → length (nth_or_nil (unlogged n machine).logs c) ≡ 0
none_told n c machine l = ap length (get_or-each_below {X = List Event} (2 ^ n) (λ b. []) c [] l)

-- a machine that was left without its logs
module _ (n cap : ℕ) (old left now : Machine) (earlier : List (List Event)) (acts : List Act) (is : IsMachine n cap old)
    (unlogs : left ≡ unlogged n old) (were : earlier ≡ old.logs) where
  -- it went through a run
  after_run : now ≡ run_of n cap left acts → logs_appended n earlier now ≡ run_of n cap old acts
  after_run same =
      (λ i. logs_appended n (were i) (same i))
      ∙ ap (λ (m : Machine). logs_appended n old.logs (run_of n cap m acts)) unlogs
      ∙ sym (logs_are_never_read n cap old acts is)

  -- or it stayed
  after_none : now ≡ left → logs_appended n earlier now ≡ old
  after_none same =
      (λ i. logs_appended n (were i) (same i)) ∙ ap (logs_appended n old.logs) unlogs ∙ logs_appended-unlogged n old is.log_count

  pub whole_again : {A E : Type 0} (result : Result A E) → OnOk result (now ≡ run_of n cap left acts)
      → OnErr result (now ≡ left) → IsMachine n cap (logs_appended n earlier now)
  whole_again (Ok x) went stayed =
      subst (λ (m : Machine). IsMachine n cap m) (sym (after_run went)) (IsMachine-run_of n cap old acts is)
  whole_again (Err e) went stayed = subst (λ (m : Machine). IsMachine n cap m) (sym (after_none stayed)) is

  pub ran_again : {A E : Type 0} (result : Result A E) (after : Machine) → after ≡ logs_appended n earlier now
      → OnOk result (now ≡ run_of n cap left acts)
      → OnOk result (after ≡ run_of n cap old acts)
  ran_again (Ok x) after back went = back ∙ after_run went
  ran_again (Err e) after back went = tt

  pub account_again : {A E : Type 0} (result : Result A E) (after : Machine) → after ≡ logs_appended n earlier now
      → OnOk result (now ≡ run_of n cap left acts)
      → OnOk result (SameLines (account n after) (account n old ++ newly_injected n old after))
  account_again (Ok x) after back went = account_after n cap old after acts (back ∙ after_run went)
  account_again (Err e) after back went = tt

  pub none_again : {A E : Type 0} (result : Result A E) (after : Machine) → after ≡ logs_appended n earlier now
      → OnErr result (now ≡ left) → OnErr result (after ≡ old)
  none_again (Ok x) after back stayed = tt
  none_again (Err e) after back stayed = back ∙ after_none stayed

  -- it told no more of a chip than there was room for
  told_in_run : (c : ℕ) → now ≡ run_of n cap left acts → length (nth_or_nil now.logs c) ≤ cycles_in acts * (4 + cap)
  told_in_run c same =
      let at : now ≡ run_of n cap (unlogged n old) acts = same ∙ ap (λ (m : Machine). run_of n cap m acts) unlogs in
      let bare : IsMachine n cap (unlogged n old) = IsMachine-unlogged n cap old is in
      let long : length now.logs ≡ 2 ^ n =
      ap (λ (m : Machine). length m.logs) at ∙ (IsMachine-run_of n cap (unlogged n old) acts bare).log_count in
      ⊎_elim
      (λ (l : c < 2 ^ n). omega (
        arith,
        few_events_are_told n cap (unlogged n old) acts c bare l,
        none_told n c old l,
        ap (λ (m : Machine). length (nth_or_nil m.logs c)) at,
      ))
      (λ (l : 2 ^ n ≤ c). omega (arith, ap length (get_or_past now.logs c [] (omega (arith, l, long)))))
      (cases_lt c (2 ^ n))

  told_in_none : (c : ℕ) → now ≡ left → length (nth_or_nil now.logs c) ≤ 0
  told_in_none c same =
      let at : now ≡ unlogged n old = same ∙ unlogs in
      let long : length now.logs ≡ 2 ^ n =
      ap (λ (m : Machine). length m.logs) at ∙ (IsMachine-unlogged n cap old is).log_count in
      ⊎_elim
      (λ (l : c < 2 ^ n). omega (arith, none_told n c old l, ap (λ (m : Machine). length (nth_or_nil m.logs c)) at))
      (λ (l : 2 ^ n ≤ c). omega (arith, ap length (get_or_past now.logs c [] (omega (arith, l, long)))))
      (cases_lt c (2 ^ n))

  pub room_again : {A E : Type 0} (result : Result A E) (log_rooms : List ℕ) → OnOk result (now ≡ run_of n cap left acts)
      → OnErr result (now ≡ left) → HaveLogRoom (cycles_in acts * (4 + cap)) log_rooms → TakeIn log_rooms now.logs
  room_again (Ok x) log_rooms went stayed room c l = omega (arith, told_in_run c went, room c l)
  room_again (Err e) log_rooms went stayed room c l = omega (arith, told_in_none c stayed)
