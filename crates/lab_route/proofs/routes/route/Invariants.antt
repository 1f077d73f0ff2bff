use Rattle.std.proofs.Common.{◌≡◌, ◌+◌, drop, length}
use Rattle.lab_study.specs.Watching.{WasTold}
use Rattle.lab_route.specs.Followed.{acts_followed}
use Rattle.lab_route.specs.Routes.{route_preceded_by, route_from, route_of}
use Rattle.lab_route.proofs.routes.route.Given as goal

-- what was told, and what the acts that are left tell, are the route; and the watcher was told of each act that is done
abbrev pub invariant-loop-done : goal.invariant-loop-done
invariant-loop-done g l = record {
  route :
      route_of l.initial.machine.n l.initial.machine.cap l.excerpt l.tag l.initial.machine.machine l.acts
      ≡ route_preceded_by l.text.items
      (route_from l.machine.n l.machine.cap l.excerpt l.tag l.machine.machine (drop l.done l.acts));
  followed :
      acts_followed l.initial.machine.n l.initial.machine.cap l.excerpt l.tag l.initial.machine.machine l.acts
      ≡ l.done + acts_followed l.machine.n l.machine.cap l.excerpt l.tag l.machine.machine (drop l.done l.acts);
  watched : WasTold g.W.Watch.sees (length l.acts) l.initial.watch l.done l.watch;
}
