-- What the reader's steps come to.
use Rattle.std.proofs.Common.{◌≡◌, inl, inr, ℕ, ◌<◌, ◌≤◌, Bool, true, false, List, [], ◌++◌, length, drop, refl, sym, ap, subst, ◌∙◌, arith, Option, Some, None}
use Rattle.std.specs.Prelude.{Ok, Err, IfSome}
use Rattle.wfs_ends.specs.Ends.{Given, Shown, Rose, AllGrow, KeepsGiven, GivesAll, given_more}
use Rattle.wfs_ends.proofs.Given.{given_nil, all_grow, all_nothing}
use Rattle.httparse.specs.Grammar.{print_request, ReadsRequest, HasNoRequest}
use Rattle.httparse.proofs.GrammarLemmas.{ReadsRequest-append}
use Rattle.httparse.specs.declared.spans.HeaderSpan.{HeaderSpan}
use Rattle.httparse.specs.declared.spans.RequestSpans.{RequestSpans}
use Rattle.http_session.specs.declared.message.Ending.{Ending}
use Rattle.http_session.specs.declared.message.Ending.TheVariants as ending
use Rattle.http_session.specs.declared.message.Next.{Next}
use Rattle.http_session.specs.declared.message.Next.TheVariants as next
use Rattle.http_session.specs.declared.plan.Plan.{Plan}
use Rattle.http_session.specs.declared.start.Start.{Start}
use Rattle.http_session.specs.Heads.{head, no_head, head_limit, EndsWithoutHead}
use Rattle.http_session.specs.Fields.{judged}
use Rattle.http_session.specs.Frames.{Frame, ended, is_due, BodyFound, content, no_content, framed, IsBody, HasBody, IsFramed, IsNext}
use Rattle.http_session.specs.Reading.{after_buffer, ahead, Moved, Reached, IsFault, IsCalm, HeadAt}
use Rattle.http_session.specs.Answers.{Answers, OnlyDue, GaveAll, Written, HasPlan, Awaits, Breaks, IsPlanned, AwaitsBody, Stays, Reads, ReadsRest, IsBodyNext, IsAsked, interim, next_of}
use Rattle.http_session.proofs.Spots.{after_twice}
use Rattle.http_session.proofs.Unique.{frames_of_head}

-- ---- options

if_map : {X : Type 0} (P Q : X → Type 0) (o : Option X) → ((x : X) → P x → Q x) → IfSome o P → IfSome o Q
if_map {X} P Q None f h = tt
if_map {X} P Q (Some x) f h = f x h

-- ---- answers

only_map : (P Q : Frame → Type 0) (due : Bool) → ((f : Frame) → Q f → P f) → OnlyDue due P → OnlyDue due Q
only_map P Q due back h = λ frame q. h frame (back frame q)

answers_map : (P Q : Frame → Type 0) (due : Bool) (a : Next) (left : Option (List ℕ)) → ((f : Frame) → P f → Q f) → ((f : Frame) → Q f → P f) → Answers P due a left → Answers Q due a left
answers_map P Q due (next.Message m) left to back (rest, p, e) = (rest, to _ p, e)
answers_map P Q due next.End left to back h = to _ h
answers_map P Q due next.BadHead left to back h = to _ h
answers_map P Q due next.TooLarge left to back h = to _ h
answers_map P Q due next.NoLength left to back h = to _ h
answers_map P Q due next.Coding left to back h = to _ h
answers_map P Q due next.Cut left to back h = to _ h
answers_map P Q due next.ReadFault left to back h = only_map P Q due back h
answers_map P Q due next.WriteFault left to back h = only_map P Q due back h
answers_map P Q due next.OutOfMemory left to back h = only_map P Q due back h

answers_ended : (P : Frame → Type 0) (due : Bool) (e : Ending) (a : Next) (left : Option (List ℕ)) → a ≡ next_of e → P (ended e due) → Answers P due a left
answers_ended P due ending.End a left is p = rw is p
answers_ended P due ending.Cut a left is p = rw is p
answers_ended P due ending.BadHead a left is p = rw is p
answers_ended P due ending.TooLarge a left is p = rw is p
answers_ended P due ending.NoLength a left is p = rw is p
answers_ended P due ending.Coding a left is p = rw is p

no_read_fault : (e : Ending) (a : Next) → a ≡ next_of e → ¬ (a ≡ next.ReadFault)
no_read_fault ending.End a is k = absurd cc
no_read_fault ending.Cut a is k = absurd cc
no_read_fault ending.BadHead a is k = absurd cc
no_read_fault ending.TooLarge a is k = absurd cc
no_read_fault ending.NoLength a is k = absurd cc
no_read_fault ending.Coding a is k = absurd cc

no_memory : (e : Ending) (a : Next) → a ≡ next_of e → ¬ (a ≡ next.OutOfMemory)
no_memory ending.End a is k = absurd cc
no_memory ending.Cut a is k = absurd cc
no_memory ending.BadHead a is k = absurd cc
no_memory ending.TooLarge a is k = absurd cc
no_memory ending.NoLength a is k = absurd cc
no_memory ending.Coding a is k = absurd cc

no_write_fault : (e : Ending) (a : Next) → a ≡ next_of e → ¬ (a ≡ next.WriteFault)
no_write_fault ending.End a is k = absurd cc
no_write_fault ending.Cut a is k = absurd cc
no_write_fault ending.BadHead a is k = absurd cc
no_write_fault ending.TooLarge a is k = absurd cc
no_write_fault ending.NoLength a is k = absurd cc
no_write_fault ending.Coding a is k = absurd cc

-- ---- the body

pub body_ended : (start : Start) (e : Ending) (a : Next) (b b' : List ℕ) (s t : Shown) → a ≡ next_of e → IfSome (ahead b s) (λ bytes. IsBody start.plan.body bytes (no_content e)) → IsBodyNext start a b s b' t
body_ended start e a b b' s t is h = record {
  answers = if_map (λ bytes. IsBody start.plan.body bytes (no_content e)) (λ bytes. Answers (HasBody start.method start.target start.plan bytes) start.plan.due a (ahead b' t)) (ahead b s)
      (λ bytes k. answers_ended (HasBody start.method start.target start.plan bytes) start.plan.due e a (ahead b' t) is (no_content e, k, refl)) h;
  fault = λ k. absurd (no_read_fault e a is k);
  memory = λ k. absurd (no_memory e a is k);
  read = λ k. no_write_fault e a is k;
}

-- ---- what is written

pub asked_not : (due : Bool) (s : Shown) → due ≡ false → IsAsked due false s s
asked_not due s is = rw is (all_nothing s)

frame_due : (method target : List ℕ) (plan : Plan) (found : BodyFound) → is_due (framed method target plan found) ≡ plan.due
frame_due method target plan (content found rest) = refl
frame_due method target plan (no_content e) = refl

pub ask_failed : (start : Start) (b b' : List ℕ) (s t : Shown) → IsAsked start.plan.due true s t → ReadsRest start b s next.WriteFault b' t
ask_failed start b b' s t (due, front) = record {
  due = true;
  answers = each (ahead b s);
  written = (refl, record { front = front.front; rest = front.rest; parts = front.parts; given = front.given; cause = front.cause });
  breaks = (record { taken = b; parts = ap (after_buffer b) (sym front.keeps.left) }, sym due);
  stays = record { takes = omega (arith, front.keeps.takes); passed = front.keeps.passed; puts = front.keeps.puts; place = front.keeps.place };
  calm = λ other. front.keeps.takes;
}
  where
    each : (o : Option (List ℕ)) → IfSome o (λ bytes. OnlyDue true (HasBody start.method start.target start.plan bytes))
    each None = tt
    each (Some bytes) = λ frame (found, is, e) yes. ap is_due e ∙ frame_due start.method start.target start.plan found ∙ due

gave_by : (s m t : Shown) (text : List ℕ) → GivesAll s text m → KeepsGiven m t → GaveAll s text t
gave_by s m t text g k = record { given = k.given ∙ g.given; calm = k.puts ∙ g.calm }

gave_nothing : (s : Shown) → GaveAll s [] s
gave_nothing s = record { given = given_nil s.given; calm = refl }

gave_behind : (s m t : Shown) (text : List ℕ) → KeepsGiven s m → GaveAll m text t → GaveAll s text t
gave_behind s m t text k w = record { given = w.given ∙ ap (λ o. given_more o text) k.given; calm = w.calm ∙ k.puts }

written_by : (due : Bool) (a : Next) (s m t : Shown) → GivesAll s (interim due) m → KeepsGiven m t → (a ≡ next.ReadFault → Rose m.failed_takes t.failed_takes) → (a ≡ next.WriteFault → ⊥) → Written due a s t
written_by due (next.Message x) s m t g k fault read = gave_by s m t _ g k
written_by due next.End s m t g k fault read = gave_by s m t _ g k
written_by due next.BadHead s m t g k fault read = gave_by s m t _ g k
written_by due next.TooLarge s m t g k fault read = gave_by s m t _ g k
written_by due next.NoLength s m t g k fault read = gave_by s m t _ g k
written_by due next.Coding s m t g k fault read = gave_by s m t _ g k
written_by due next.Cut s m t g k fault read = gave_by s m t _ g k
written_by due next.ReadFault s m t g k fault read = (gave_by s m t _ g k, let r = fault refl in omega (arith, g.keeps.takes, r))
written_by due next.WriteFault s m t g k fault read = absurd (read refl)
written_by due next.OutOfMemory s m t g k fault read = gave_by s m t _ g k

-- where the rest of a message breaks off
breaks_by : (plan : Plan) (a : Next) (b : List ℕ) (s m t : Shown) → m.left ≡ s.left → (a ≡ next.ReadFault → (q : IsFault (ahead b m) m t) × IsBody plan.body q.reached.taken (no_content ending.Cut)) → (a ≡ next.OutOfMemory → Reached (ahead b m) t) → (a ≡ next.WriteFault → ⊥)
    → Breaks (AwaitsBody plan) (IsPlanned plan) plan.due a (ahead b s) t
breaks_by plan (next.Message x) b s m t e fault memory read = tt
breaks_by plan next.End b s m t e fault memory read = tt
breaks_by plan next.BadHead b s m t e fault memory read = tt
breaks_by plan next.TooLarge b s m t e fault memory read = tt
breaks_by plan next.NoLength b s m t e fault memory read = tt
breaks_by plan next.Coding b s m t e fault memory read = tt
breaks_by plan next.Cut b s m t e fault memory read = tt
breaks_by plan next.ReadFault b s m t e fault memory read = let f = fault refl in (record { taken = f.0.reached.taken; parts = ap (after_buffer b) (sym e) ∙ f.0.reached.parts }, (f.1, refl))
breaks_by plan next.WriteFault b s m t e fault memory read = absurd (read refl)
breaks_by plan next.OutOfMemory b s m t e fault memory read = (subst (λ left. Reached (after_buffer b left) t) e (memory refl), λ yes. sym yes)

stays_by : (text : List ℕ) (s m t : Shown) → GivesAll s text m → KeepsGiven m t → Stays s t
stays_by text s m t g k = record { takes = omega (arith, g.keeps.takes, k.takes); passed = subst (λ (p : List Given). AllGrow s.passed p) (sym k.passed) g.keeps.passed; puts = omega (arith, g.keeps.puts, k.puts); place = k.place ∙ g.keeps.place }

pub rest_read : (start : Start) (a : Next) (b b' : List ℕ) (s m t : Shown) → IsAsked start.plan.due false s m → IsBodyNext start a b m b' t → KeepsGiven m t → ((a ≡ next.ReadFault → ⊥) → IsCalm m t) → ReadsRest start b s a b' t
rest_read start a b b' s m t g n k calm = record {
  due = start.plan.due;
  answers = subst (λ left. IfSome (after_buffer b left) (λ bytes. Answers (HasBody start.method start.target start.plan bytes) start.plan.due a (ahead b' t))) g.keeps.left n.answers;
  written = written_by start.plan.due a s m t g k (λ e. (n.fault e).0.cause) n.read;
  breaks = breaks_by start.plan a b s m t g.keeps.left n.fault n.memory n.read;
  stays = stays_by (interim start.plan.due) s m t g k;
  calm = λ other. calm other ∙ g.keeps.takes;
}

-- ---- the head

stays_same : (s : Shown) → Stays s s
stays_same s = record { takes = omega arith; passed = all_grow s.passed; puts = omega arith; place = refl }

written_none : (e : Ending) (a : Next) (s : Shown) → a ≡ next_of e → Written false a s s
written_none ending.End a s is = rw is (gave_nothing s)
written_none ending.Cut a s is = rw is (gave_nothing s)
written_none ending.BadHead a s is = rw is (gave_nothing s)
written_none ending.TooLarge a s is = rw is (gave_nothing s)
written_none ending.NoLength a s is = rw is (gave_nothing s)
written_none ending.Coding a s is = rw is (gave_nothing s)

breaks_none : (due : Bool) (e : Ending) (a : Next) (o : Option (List ℕ)) (t : Shown) → a ≡ next_of e → Breaks Awaits HasPlan due a o t
breaks_none due ending.End a o t is = rw is tt
breaks_none due ending.Cut a o t is = rw is tt
breaks_none due ending.BadHead a o t is = rw is tt
breaks_none due ending.TooLarge a o t is = rw is tt
breaks_none due ending.NoLength a o t is = rw is tt
breaks_none due ending.Coding a o t is = rw is tt

not_due : (P : List ℕ → Frame → Type 0) (o : Option (List ℕ)) → IfSome o (λ bytes. OnlyDue false (P bytes))
not_due P None = tt
not_due P (Some bytes) = λ frame is yes. absurd cc

-- the link failed within a head
pub head_failed : (b c : List ℕ) (s t : Shown) → Moved b s c t → HasNoRequest c → length c < head_limit → Rose s.failed_takes t.failed_takes → Reads b s next.ReadFault c t
head_failed b c s t m none short rose = record {
  due = false;
  answers = not_due IsNext (ahead b s);
  written = (gave_behind s t t [] m.keeps (gave_nothing t), rose);
  breaks = (record { taken = c; parts = sym m.same }, inl ((none, short), refl));
  stays = record { takes = m.keeps.takes; passed = subst (λ (p : List Given). AllGrow s.passed p) (sym m.keeps.passed) (all_grow s.passed); puts = let k = m.keeps.puts in omega (arith, k); place = m.keeps.place };
  calm = λ other. absurd (other refl);
}

-- no memory for what the head says
pub head_memory : (b : List ℕ) (s : Shown) → Reads b s next.OutOfMemory b s
head_memory b s = record {
  due = false;
  answers = not_due IsNext (ahead b s);
  written = gave_nothing s;
  breaks = (record { taken = b; parts = refl }, λ yes. absurd cc);
  stays = stays_same s;
  calm = λ other. refl;
}

-- the bytes end without a head
pub head_ended : (e : Ending) (a : Next) (b : List ℕ) (s : Shown) → a ≡ next_of e → IfSome (ahead b s) (λ bytes. EndsWithoutHead bytes e) → Reads b s a b s
head_ended e a b s is h = record {
  due = false;
  answers = if_map (λ bytes. EndsWithoutHead bytes e) (λ bytes. Answers (IsNext bytes) false a (ahead b s)) (ahead b s) (λ bytes k. answers_ended (IsNext bytes) false e a (ahead b s) is (no_head e, k, refl)) h;
  written = written_none e a s is;
  breaks = breaks_none false e a (ahead b s) s is;
  stays = stays_same s;
  calm = λ other. refl;
}

head_before : (b : List ℕ) (headers : List HeaderSpan) (spans : RequestSpans) (l : List ℕ) (at : HeadAt b headers spans) → ReadsRequest (b ++ l) at.head (drop spans.len b ++ l)
head_before b headers spans l at = ReadsRequest-append b at.head (drop spans.len b) l at.at.reads

head_short : (b : List ℕ) (headers : List HeaderSpan) (spans : RequestSpans) (at : HeadAt b headers spans) → length b ≤ head_limit → length (print_request at.head) ≤ head_limit
head_short b headers spans at le = omega (arith, at.at.len, at.within.section.len_fits, le)

-- the head's fields are refused
pub head_refused : (e : Ending) (a : Next) (b : List ℕ) (headers : List HeaderSpan) (spans : RequestSpans) (s : Shown) (at : HeadAt b headers spans) → length b ≤ head_limit → a ≡ next_of e → judged at.head ≡ Err e → Reads b s a b s
head_refused e a b headers spans s at le is refused = record {
  due = false;
  answers = each s.left;
  written = written_none e a s is;
  breaks = breaks_none false e a (ahead b s) s is;
  stays = stays_same s;
  calm = λ other. refl;
}
  where
    each : (left : Option (List ℕ)) → IfSome (after_buffer b left) (λ bytes. Answers (IsNext bytes) false a (ahead b s))
    each None = tt
    each (Some l) = answers_ended (IsNext (b ++ l)) false e a (ahead b s) is
        (head at.head (drop spans.len b ++ l), (head_before b headers spans l at, head_short b headers spans at le), subst (λ r. IsFramed at.head r (drop spans.len b ++ l) (ended e false)) (sym refused) refl)

-- the body follows the head
pub head_followed : (start : Start) (a : Next) (b c b' : List ℕ) (headers : List HeaderSpan) (spans : RequestSpans) (s t : Shown) (at : HeadAt b headers spans) → length b ≤ head_limit
    → start.method ≡ at.head.method → start.target ≡ at.head.target → judged at.head ≡ Ok start.plan → c ≡ drop spans.len b
    → ReadsRest start c s a b' t → Reads b s a b' t
head_followed start a b c b' headers spans s t at le method target plan skip r = record {
  due = r.due;
  answers = each s.left (subst (λ (x : List ℕ). IfSome (after_buffer x s.left) (λ bytes. Answers (HasBody start.method start.target start.plan bytes) r.due a (ahead b' t))) skip r.answers);
  written = r.written;
  breaks = broken a r.breaks;
  stays = r.stays;
  calm = r.calm;
}
  where
    same : (rest : List ℕ) (frame : Frame) → HasBody start.method start.target start.plan rest frame → IsFramed at.head (judged at.head) rest frame
    same rest frame h = subst (λ r. IsFramed at.head r rest frame) (sym plan) (subst (λ (x : List ℕ). HasBody x at.head.target start.plan rest frame) method (subst (λ (x : List ℕ). HasBody start.method x start.plan rest frame) target h))

    planned : (taken : List ℕ) (due : Bool) → due ≡ start.plan.due → HasPlan (print_request at.head ++ taken) due
    planned taken due e = (at.head, taken, ((at.at.reads.0, refl), head_short b headers spans at le), start.plan, plan, e)

    awaits : (taken : List ℕ) (due : Bool) → IsBody start.plan.body taken (no_content ending.Cut) → due ≡ start.plan.due → IsNext (print_request at.head ++ taken) (ended ending.Cut due)
    awaits taken due is e = (head at.head taken, ((at.at.reads.0, refl), head_short b headers spans at le), same taken (ended ending.Cut due) (no_content ending.Cut, is, ap (ended ending.Cut) e))

    reached : (q : Reached (ahead c s) t) → Reached (ahead b s) t
    reached q = record {
      taken = print_request at.head ++ q.taken;
      parts = ap (λ (x : List ℕ). after_buffer x s.left) (at.at.reads.1 ∙ ap (λ (x : List ℕ). print_request at.head ++ x) (sym skip))
          ∙ sym (after_twice (print_request at.head) c s.left) ∙ ap (after_buffer (print_request at.head)) q.parts ∙ after_twice (print_request at.head) q.taken t.left;
    }

    broken : (x : Next) → Breaks (AwaitsBody start.plan) (IsPlanned start.plan) r.due x (ahead c s) t → Breaks Awaits HasPlan r.due x (ahead b s) t
    broken (next.Message m) h = tt
    broken next.End h = tt
    broken next.BadHead h = tt
    broken next.TooLarge h = tt
    broken next.NoLength h = tt
    broken next.Coding h = tt
    broken next.Cut h = tt
    broken next.ReadFault h = (reached h.0, inr (awaits h.0.taken r.due h.1.0 h.1.1))
    broken next.WriteFault h = (reached h.0, planned h.0.taken true h.1)
    broken next.OutOfMemory h = (reached h.0, λ yes. planned h.0.taken true (h.1 yes))

    back : (rest : List ℕ) (frame : Frame) → IsFramed at.head (judged at.head) rest frame → HasBody start.method start.target start.plan rest frame
    back rest frame h = subst (λ (x : List ℕ). HasBody start.method x start.plan rest frame) (sym target) (subst (λ (x : List ℕ). HasBody x at.head.target start.plan rest frame) (sym method) (subst (λ r. IsFramed at.head r rest frame) plan h))

    each : (left : Option (List ℕ)) → IfSome (after_buffer (drop spans.len b) left) (λ bytes. Answers (HasBody start.method start.target start.plan bytes) r.due a (ahead b' t)) → IfSome (after_buffer b left) (λ bytes. Answers (IsNext bytes) r.due a (ahead b' t))
    each None h = tt
    each (Some l) h = answers_map (HasBody start.method start.target start.plan (drop spans.len b ++ l)) (IsNext (b ++ l)) r.due a (ahead b' t)
        (λ frame k. (head at.head (drop spans.len b ++ l), (head_before b headers spans l at, head_short b headers spans at le), same (drop spans.len b ++ l) frame k))
        (λ frame k. back (drop spans.len b ++ l) frame (frames_of_head (b ++ l) at.head (drop spans.len b ++ l) frame (head_before b headers spans l at) (head_short b headers spans at le) k))
        h

-- ---- bytes were taken before

written_moved : (due : Bool) (a : Next) (s m t : Shown) → KeepsGiven s m → Written due a m t → Written due a s t
written_moved due (next.Message x) s m t k w = gave_behind s m t _ k w
written_moved due next.End s m t k w = gave_behind s m t _ k w
written_moved due next.BadHead s m t k w = gave_behind s m t _ k w
written_moved due next.TooLarge s m t k w = gave_behind s m t _ k w
written_moved due next.NoLength s m t k w = gave_behind s m t _ k w
written_moved due next.Coding s m t k w = gave_behind s m t _ k w
written_moved due next.Cut s m t k w = gave_behind s m t _ k w
written_moved due next.OutOfMemory s m t k w = gave_behind s m t _ k w
written_moved due next.ReadFault s m t k w = (gave_behind s m t _ k w.0, omega (arith, k.takes, w.1))
written_moved due next.WriteFault s m t k w =
    (w.0, record { front = w.1.front; rest = w.1.rest; parts = w.1.parts; given = w.1.given ∙ ap (λ o. given_more o w.1.front) k.given; cause = subst (λ (n : ℕ). Rose n t.failed_puts) k.puts w.1.cause })

pub reads_moved : (a : Next) (b c b' : List ℕ) (s m t : Shown) → Moved b s c m → IsCalm s m → Reads c m a b' t → Reads b s a b' t
reads_moved a b c b' s m t moved calm r = record {
  due = r.due;
  answers = subst (λ o. IfSome o (λ bytes. Answers (IsNext bytes) r.due a (ahead b' t))) moved.same r.answers;
  written = written_moved r.due a s m t moved.keeps r.written;
  breaks = subst (λ o. Breaks Awaits HasPlan r.due a o t) moved.same r.breaks;
  stays = record { takes = omega (arith, moved.keeps.takes, r.stays.takes); passed = subst (λ (p : List Given). AllGrow p t.passed) moved.keeps.passed r.stays.passed; puts = omega (arith, moved.keeps.puts, r.stays.puts); place = r.stays.place ∙ moved.keeps.place };
  calm = λ other. r.calm other ∙ calm;
}

-- ---- a link's source and its sink are one

pub ask_failed_at : (start : Start) (b b' : List ℕ) (s s' t t' : Shown) → s ≡ s' → t ≡ t' → IsAsked start.plan.due true s' t' → ReadsRest start b s next.WriteFault b' t
ask_failed_at start b b' s s' t t' e k h = ask_failed start b b' s t (subst (λ x. IsAsked start.plan.due true x t) (sym e) (subst (λ x. IsAsked start.plan.due true s' x) (sym k) h))

pub rest_read_at : (start : Start) (a : Next) (b b' : List ℕ) (s s' m m' t : Shown) → s ≡ s' → m ≡ m' → IsAsked start.plan.due false s' m' → IsBodyNext start a b m b' t → KeepsGiven m t
    → ((a ≡ next.ReadFault → ⊥) → IsCalm m t) → ReadsRest start b s a b' t
rest_read_at start a b b' s s' m m' t e k h n keeps calm = rest_read start a b b' s m t (subst (λ x. IsAsked start.plan.due false x m) (sym e) (subst (λ x. IsAsked start.plan.due false s' x) (sym k) h)) n keeps calm
