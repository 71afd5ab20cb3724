-- The tests of the history, each computed, and what they show.
use mathlib.Core.Path.{◌≡◌, refl, ap, ◌∙◌}
use mathlib.Core.Bool.{true, false}
use Rattle.laws_words.specs.Words.{bit}
use Rattle.rules_base.specs.Sets.{has}
use Rattle.rules_base.specs.Sets as sets
use Rattle.rules_pool.specs.declared.Job.{Job}
use Rattle.rules_pool.specs.declared.Pool.{Pool}
use Rattle.rules_pool.specs.Sessions as roster
use Rattle.rules_pool.specs.Changes as changes
use Rattle.rules_pool.specs.Run as run
use Rattle.rules_pool.specs.Still as still
use Rattle.rules_pool.specs.Cases as cases
use Rattle.rules_pool.specs.Recovery as recovery
use Rattle.rules_pool.specs.StateRules as rules
use Rattle.rules_client.specs.Joins as joins
use Rattle.rules_client.specs.Extend as extending
use Rattle.rules_client.specs.Enables as enables
use Rattle.rules_client.specs.Links as links
use Rattle.rules_client.specs.Writes as writes
use Rattle.rules_client.specs.Remove as remove
use Rattle.rules_client.specs.Removal as removal
use Rattle.rules_client.specs.Answers as answers
use Rattle.rules_node.specs.Change as change
use Rattle.rules_node.specs.Turns as turns
use Rattle.rules_node.specs.StateRules as noderules
use Rattle.rules_node.specs.Register as register
use Rattle.rules_node.specs.Join as join
use Rattle.rules_node.specs.Enable as nodeenable
use Rattle.rules_node.specs.Write as nodewrite
use Rattle.rules_node.specs.Info as info
use Rattle.rules_node.specs.Fill as fill
use Rattle.rules_node.specs.Serve as serve
use Rattle.rules_node.specs.Hand as hand
use Rattle.theorem_honest.proofs.Stations as stations
use Rattle.rules_world.specs.History.{start}
use Rattle.theorem_forgotten_instance.specs.Instance.{Instance}
use Rattle.theorem_forgotten_instance.proofs.Follow.{keeps_all}
use Rattle.theorem_forgotten_instance.proofs.Sound.{moment, all-follow, owing, owed, began}
use Rattle.theorem_forgotten_instance.proofs.Instance.{first, fresh, starts, begun, rounds, write, check, outage, assembly, deletion, extension, v1, v2, v3, v4, v5, v6, v7, v8, v9, run-1, run-2, run-3}

-- The tests, each computed.
record Computed : Type 0 where
  keep-1 : keeps_all write first ≡ true
  keep-2 : keeps_all check v1 ≡ true
  keep-3 : keeps_all (rounds 3) v2 ≡ true
  keep-4 : keeps_all outage v3 ≡ true
  keep-5 : keeps_all (rounds 7) v4 ≡ true
  keep-6 : keeps_all assembly v5 ≡ true
  keep-7 : keeps_all (rounds 25) v6 ≡ true
  keep-8 : keeps_all deletion v7 ≡ true
  keep-9 : keeps_all extension v8 ≡ true
  owes-1 : owing v1 2 3 ≡ true
  owes-3 : owing v3 2 7 ≡ true
  owes-5 : owing v5 2 7 ≡ true
  owes-7 : owing v7 2 7 ≡ true
  owes-9 : owing v9 2 7 ≡ true
  runs-2 : v2.pool.job ≡ Job.Running run-1
  runs-4 : v4.pool.job ≡ Job.Running run-2
  runs-6 : v6.pool.job ≡ Job.Running run-3
  gone : has v8.pool.roster.members 2 ≡ false

computed : Computed
unfolding bit has sets.with sets.without sets.size sets.lowest roster.ids_of changes.entered changes.failed changes.left changes.removing changes.went run.awaited_in run.failed_answer run.good run.receiver still.possible cases.begun cases.case_of recovery.posted recovery.tried rules.all_asked rules.one_asked rules.roster_ok rules.run_ok rules.valid_pool joins.assemble_done joins.assemble_refusal joins.assembled joins.create_done joins.create_refusal joins.created joins.join_assemble joins.join_create joins.join_told joins.set_bars extending.extend extending.extend_done extending.extend_refusal extending.extended extending.picked enables.enable enables.enable_done enables.enable_refusal enables.enables links.back_refusal links.check_done links.check_refusal links.checks links.down_done links.down_refusal links.dropped links.drops links.link_down links.store_check writes.marks writes.miss_step writes.missed writes.reach_bars writes.write_done writes.write_ended writes.write_refusal remove.remove remove.remove_refusal removal.departed removal.due removal.freed_from removal.onward removal.started answers.answer answers.answer_refusal answers.moved_on change.fresh change.went_to change.equipped change.taken_over change.member_entered change.member_dropped change.stored_version change.kept_chunk change.forgotten change.transferred change.ended_transfer change.instructed turns.settled noderules.kept_ok noderules.valid register.register_create_refusal register.registered_create register.register_create register.register_add_refusal register.registered_add register.register_add register.unregister_refusal register.wiped register.unregistered register.unregister join.join_create_refusal join.joined_create join.join_create join.assemble_refusal join.assemble join.leave_refusal join.left join.leave nodeenable.enable1_refusal nodeenable.enabled nodeenable.enable1 nodewrite.write_refusal nodewrite.written nodewrite.write info.pool_info_refusal info.informed info.pool_info fill.fill_refusal fill.filled fill.fill serve.serve_refusal serve.readied serve.map_ready serve.map_get_ver serve.last_io_refusal serve.last_io_to_map hand.hand_refusal hand.map_done_refusal hand.committed hand.map_done hand.map_disable stations.map_taken
computed = record {
  keep-1 = refl;
  keep-2 = refl;
  keep-3 = refl;
  keep-4 = refl;
  keep-5 = refl;
  keep-6 = refl;
  keep-7 = refl;
  keep-8 = refl;
  keep-9 = refl;
  owes-1 = refl;
  owes-3 = refl;
  owes-5 = refl;
  owes-7 = refl;
  owes-9 = refl;
  runs-2 = refl;
  runs-4 = refl;
  runs-6 = refl;
  gone = refl;
}

-- C-15's premises can be met, and chunks are missed
pub instance : Instance
instance =
    let c = computed in
    let s1 = (all-follow write first (record { world = fresh; history = start fresh starts; seen = begun }) c.keep-1).to in
    let n2 = all-follow check v1 s1 c.keep-2 in
    let n3 = all-follow (rounds 3) v2 n2.to c.keep-3 in
    let n4 = all-follow outage v3 n3.to c.keep-4 in
    let n5 = all-follow (rounds 7) v4 n4.to c.keep-5 in
    let n6 = all-follow assembly v5 n5.to c.keep-6 in
    let n7 = all-follow (rounds 25) v6 n6.to c.keep-7 in
    let n8 = all-follow deletion v7 n7.to c.keep-8 in
    let n9 = all-follow extension v8 n8.to c.keep-9 in
    record {
      wrote = moment v1 s1;
      missed = owed v1 s1 2 3 c.owes-1;
      began-1 = moment v2 n2.to;
      case-1 = began v2 n2.to run-1 c.runs-2;
      back-1 = moment v3 n3.to;
      owed-1 = owed v3 n3.to 2 7 c.owes-3;
      began-2 = moment v4 n4.to;
      case-2 = began v4 n4.to run-2 c.runs-4;
      back-2 = moment v5 n5.to;
      owed-2 = owed v5 n5.to 2 7 c.owes-5;
      began-3 = moment v6 n6.to;
      case-3 = began v6 n6.to run-3 c.runs-6;
      back-3 = moment v7 n7.to;
      owed-3 = owed v7 n7.to 2 7 c.owes-7;
      deleted = moment v8 n8.to;
      gone = ap (λ (p : Pool). has p.roster.members 2) n8.to.seen.pool ∙ c.gone;
      extended = moment v9 n9.to;
      owed-again = owed v9 n9.to 2 7 c.owes-9;
      order-1 = n2.later;
      order-2 = n3.later;
      order-3 = n4.later;
      order-4 = n5.later;
      order-5 = n6.later;
      order-6 = n7.later;
      order-7 = n8.later;
      order-8 = n9.later;
    }
