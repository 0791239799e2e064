use Rattle.std.proofs.Common.{◌≡◌, ◌∙◌, List, [], map, sym, ap}
use Rattle.std.specs.Option.{option_copied}
use Rattle.bfs_clients.specs.Inside.Places.{changes, put_all, row_in}
use Rattle.bfs_clients.specs.Tallies.{Tally, tallied_by}
use Rattle.bfs_clients.proofs.Places.{counted, none_counted, still_found}
use Rattle.bfs_clients.proofs.tallies.Tallies.count.Goals as goal

pub returns-in_default : goal.returns-in_default
returns-in_default c = record { ok = none_counted c.args.clients.now c.args.signed.now c.args.self.now c.in_default.not-Reply; err = tt }

pub returns-in_default-get-clause-ok : goal.returns-in_default-get-clause-ok
returns-in_default-get-clause-ok c =
    rw (← c.self.view_is)
    (counted c.args.clients.now c.args.signed.now c.in-Reply.reply c.self.inside.places.entries c.self.inside.tallies.items c.client.result c.timestamp.result [] c.in-Reply.is c.self.invariant
    c.client.ensures c.timestamp.ensures (ap row_in (sym (ap option_copied c.in_default-get.is) ∙ c.get.ensures.value)))

all_changed : (c : goal.After-put_back) → c.put_back.new.tallies.items ≡ map (λ tally. tallied_by c.args.clients.now tally c.args.signed.now) c.self.inside.tallies.items
all_changed c =
    let change : Tally → Tally = λ tally. tallied_by c.args.clients.now tally c.args.signed.now in
    c.put_back.ensures
    ∙ ap (put_all c.self.inside.tallies.items) (c.in_ok-changed.ensures ∙ ap (λ (tallies : List Tally). changes change tallies c.deref-2.result.now) c.deref.ensures.value)
    ∙ counted c.args.clients.now c.args.signed.now c.in-Reply.reply c.self.inside.places.entries c.self.inside.tallies.items c.client.result c.timestamp.result c.deref-2.result.now c.in-Reply.is
    c.self.invariant c.client.ensures c.timestamp.ensures (c.deref-2.ensures.value ∙ ap row_in (sym (ap option_copied c.in-Some.is) ∙ c.get.ensures.value))

pub returns-clause-ok : goal.returns-clause-ok
returns-clause-ok c = all_changed c ∙ ap (map (λ tally. tallied_by c.args.clients.now tally c.args.signed.now)) c.self.view_is

pub invariant_of-self : goal.invariant_of-self
invariant_of-self c =
    rw (all_changed c)
    (still_found c.args.clients.now c.args.signed.now c.self.inside.places.entries c.self.inside.tallies.items c.self.invariant)
