-- What a round comes to, by what the reader answered and by what was given then.
use Rattle.std.proofs.Common.{◌≡◌, ℕ, ◌-◌, ◌≤◌, Bool, true, false, List, [], ◌++◌, Option, Some, None, Result, Ok, Err, refl, sym, ap, ◌∙◌, arith, append_assoc}
use Rattle.std.specs.Prelude.{◌==◌, ◌||◌, IfSome}
use Rattle.wfs_ends.specs.Ends.{Given, Shown, KeepsLeft, GivesAll, GivesFront, given_more, later_of, later}
use Rattle.wfs_ends.specs.declared.fault.WriteFault.{WriteFault}
use Rattle.wfs_ends.proofs.Given.{given_twice}
use Rattle.http_session.specs.declared.message.Ending.{Ending}
use Rattle.http_session.specs.declared.message.Message.{Message}
use Rattle.http_session.specs.declared.message.Next.TheVariants as next
use Rattle.http_session.specs.Frames.{ended, IsNext}
use Rattle.http_session.specs.Reading.{ahead, after_buffer, Reached, IsCalm}
use Rattle.http_session.specs.Answers.{Reads, Answers, GaveAll, interim}
use Rattle.reply_documents.specs.Refusals.{fixed_text}
use Rattle.service_session.specs.declared.answered.Answered.{Answered}
use Rattle.service_session.specs.declared.ending.SessionEnd.TheVariants as end
use Rattle.service_session.specs.declared.round.Round.{Round}
use Rattle.service_session.specs.declared.round.Round.TheVariants as round
use Rattle.service_session.specs.declared.service.Service.{Ghosts as Meaning}
use Rattle.service_session.specs.Answers.{answer_text}
use Rattle.service_session.specs.Session.{Point, IsAnswered, final, final_at, final_with, row_of, input_ended, input_cut, refused, answered, read_failed, line_failed, answer_failed, refusal_failed, no_memory, memory_failed, Stays, IsWritable, Becomes, IsAt, GoesOn, IsOver}
use Rattle.service_session.specs.Rounds.{Replies, IsRound, round_of, IsRefused, IsGivenUp}

-- ---- what was given

given_thrice : (first : Given) (a b c : List ℕ) → given_more (given_more (given_more first a) b) c ≡ given_more first (a ++ (b ++ c))
given_thrice first a b c = ap (λ o. given_more o c) (given_twice first a b) ∙ given_twice first (a ++ b) c ∙ ap (given_more first) (append_assoc a b c)

given_behind : (first old mid new : Given) (a b c : List ℕ) → old ≡ given_more first a → mid ≡ given_more old b → new ≡ given_more mid c → new ≡ given_more first (a ++ (b ++ c))
given_behind first old mid new a b c e f g = g ∙ ap (λ o. given_more o c) (f ∙ ap (λ o. given_more o b) e) ∙ given_thrice first a b c

given_line : (first old new : Given) (a b : List ℕ) → old ≡ given_more first a → new ≡ given_more old b → new ≡ given_more first (a ++ b)
given_line first old new a b e f = f ∙ ap (λ o. given_more o b) e ∙ given_twice first a b

-- a front of what comes behind two other texts
front_begins : (a b text front rest : List ℕ) → text ≡ front ++ rest → a ++ (b ++ text) ≡ (a ++ (b ++ front)) ++ rest
front_begins a b text front rest e = ap (λ (t : List ℕ). a ++ (b ++ t)) e ∙ ap (λ (t : List ℕ). a ++ t) (sym (append_assoc b front rest)) ∙ sym (append_assoc a (b ++ front) rest)

-- ---- a message

stays_on : (s0 s1 s2 : Shown) → s0.failed_takes ≤ s1.failed_takes → s0.failed_puts ≤ s1.failed_puts → s1.place ≡ s0.place → KeepsLeft s1 s2 → Stays s0 s2
stays_on s0 s1 s2 takes puts place k = record { takes = omega (arith, takes, k.takes); puts = omega (arith, puts, k.puts); place = k.place ∙ place }

not_last : (close last : Bool) → (close || last) ≡ false → last ≡ false
not_last true last e = absurd cc
not_last false last e = e

text_same : {S : Type 0} (mean : Meaning S) (a : Answered) (x y : S) (b c : Bool) → x ≡ y → b ≡ c → answer_text a (mean.schema y) c ≡ answer_text a (mean.schema x) b
text_same mean a x y b c e f = rw (e, f) refl

-- the point behind an answer
abbrev behind : {S : Type 0} → Point S → Bool → List ℕ → S → List ℕ → Point S
behind p due rest service text = record { bytes = rest; moments = later_of p.moments; service = service; given = p.given ++ (interim due ++ text); left = p.left - 1 }

module _ {S : Type 0} (mean : Meaning S) (service : S) (last : Bool) (b : List ℕ) (s0 : Shown) (m : Message) (b' : List ℕ) (s1 : Shown) (c : Option (List ℕ)) (reads : Reads b s0 (next.Message m) b' s1) where
  abbrev text_of : Answered → List ℕ
  text_of a = answer_text a (mean.schema service) (m.close || last)

  module _ (r : Result Bool WriteFault) (service' : S) (c' : Option (List ℕ)) (s2 : Shown) (replies : Replies mean service m last c s1 r service' c' s2) where
    module _ (first : Given) (p : Point S) (left : ℕ) (is_last : (left == 1) ≡ last) (at : IsAt first p b s0 c service left) where
      found : Answers (IsNext p.bytes) reads.due (next.Message m) (ahead b' s1)
      found = rw at.bytes at reads.answers

      is_answered : (closes : Bool) → closes ≡ (m.close || last) → IsAnswered mean p closes (behind p reads.due found.0 service' (text_of replies.answer))
      is_answered closes e = record {
        sent = m;
        due = reads.due;
        rest = found.0;
        next = found.1;
        moment = replies.moment;
        now = rw at.coming at replies.now;
        answer = replies.answer;
        judged = rw (← at.serves, ← at.remains, is_last) replies.judged;
        closing = rw (← at.remains, is_last) e;
        bytes = refl;
        moments = refl;
        given = ap (λ (t : List ℕ). p.given ++ (interim reads.due ++ t)) (text_same mean replies.answer p.service service closes (m.close || last) (sym at.serves) e);
        left = refl;
      }

      all_given : GivesAll s1 (text_of replies.answer) s2 → s2.given ≡ given_more first (p.given ++ (interim reads.due ++ text_of replies.answer))
      all_given g = given_behind first s0.given s1.given s2.given p.given (interim reads.due) (text_of replies.answer) at.given reads.written.given g.given

      goes_on : GivesAll s1 (text_of replies.answer) s2 → false ≡ (m.close || last) → GoesOn mean first p b' s2 c' service' (left - 1)
      goes_on g e = record {
        to = behind p reads.due found.0 service' (text_of replies.answer);
        answered = is_answered false e;
        at = record {
          bytes = ap (after_buffer b') g.keeps.left ∙ found.2;
          coming = replies.later ∙ ap later at.coming;
          serves = refl;
          given = all_given g;
          remains = ap (λ n. n - 1) at.remains;
        };
      }

      is_over : GivesAll s1 (text_of replies.answer) s2 → true ≡ (m.close || last) → IsOver mean first p end.Closed s2 c' service'
      is_over g e = record {
        final = final_with end.Closed (behind p reads.due found.0 service' (text_of replies.answer)) (p.given ++ (interim reads.due ++ text_of replies.answer));
        finishes = answered (behind p reads.due found.0 service' (text_of replies.answer)) (is_answered true e);
        end = refl;
        given = all_given g;
        serves = refl;
        coming = replies.later ∙ ap later at.coming;
        left = tt;
      }

      failed : GivesFront s1 (text_of replies.answer) s2 → IsOver mean first p end.WriteFault s2 c' service'
      failed g = record {
        final = final_with end.WriteFault (behind p reads.due found.0 service' (text_of replies.answer)) (p.given ++ (interim reads.due ++ g.front));
        finishes = answer_failed (m.close || last) (behind p reads.due found.0 service' (text_of replies.answer)) (interim reads.due ++ g.front) (is_answered (m.close || last) refl) (record { rest = g.rest; parts = front_begins p.given (interim reads.due) (text_of replies.answer) g.front g.rest g.parts });
        end = refl;
        given = given_behind first s0.given s1.given s2.given p.given (interim reads.due) g.front at.given reads.written.given g.given;
        serves = refl;
        coming = replies.later ∙ ap later at.coming;
        left = tt;
      }

  calm_read : IsCalm s0 s1
  calm_read = reads.calm (λ e. absurd cc)

  writable_read : IsWritable s0 s1
  writable_read = reads.written.calm

  pub answered_round : (r : Result Bool WriteFault) (service' : S) (c' : Option (List ℕ)) (s2 : Shown) → Replies mean service m last c s1 r service' c' s2 → IsRound mean last b s0 c service (round_of r) b' s2 c' service'
  answered_round (Ok false) service' c' s2 replies = record {
    stays = stays_on s0 s1 s2 reads.stays.takes reads.stays.puts reads.stays.place replies.gives.0.keeps;
    cause = not_last m.close last (sym replies.gives.1);
    calm = (replies.gives.0.keeps.takes ∙ calm_read, replies.gives.0.calm ∙ writable_read);
    becomes = replies.becomes;
    told = λ first p left is_last at. goes_on (Ok false) service' c' s2 replies first p left is_last at replies.gives.0 replies.gives.1;
  }
  answered_round (Ok true) service' c' s2 replies = record {
    stays = stays_on s0 s1 s2 reads.stays.takes reads.stays.puts reads.stays.place replies.gives.0.keeps;
    cause = tt;
    calm = ((λ other. replies.gives.0.keeps.takes ∙ calm_read), λ other. replies.gives.0.calm ∙ writable_read);
    becomes = replies.becomes;
    told = λ first p left is_last at. is_over (Ok true) service' c' s2 replies first p left is_last at replies.gives.0 replies.gives.1;
  }
  answered_round (Err fault) service' c' s2 replies = record {
    stays = stays_on s0 s1 s2 reads.stays.takes reads.stays.puts reads.stays.place replies.gives.keeps;
    cause = omega (arith, reads.stays.puts, replies.gives.cause);
    calm = ((λ other. replies.gives.keeps.takes ∙ calm_read), λ other. absurd (other refl));
    becomes = replies.becomes;
    told = λ first p left is_last at. failed (Err fault) service' c' s2 replies first p left is_last at replies.gives;
  }

-- ---- what the reader says besides

abbrev inside : Option (List ℕ) → List ℕ
inside None = []
inside (Some xs) = xs

-- what is left behind the bytes that were taken
pub record Parted (bytes taken : List ℕ) (left : Option (List ℕ)) : Type 0 where
  pub rest : List ℕ
  pub parts : bytes ≡ taken ++ rest
  pub is : left ≡ Some rest

parted_at : (bytes taken : List ℕ) (left : Option (List ℕ)) → Some bytes ≡ after_buffer taken left → Parted bytes taken left
parted_at bytes taken None e = absurd cc
parted_at bytes taken (Some rest) e = record { rest = rest; parts = ap inside e; is = refl }

parted : (bytes : List ℕ) (ahead : Option (List ℕ)) (after : Shown) (r : Reached ahead after) → ahead ≡ Some bytes → Parted bytes r.taken after.left
parted bytes ahead after r e = parted_at bytes r.taken after.left (sym e ∙ r.parts)

module _ {S : Type 0} (mean : Meaning S) (service : S) (becomes : Becomes mean service service) (last : Bool) (b : List ℕ) (s0 : Shown) (b' : List ℕ) (s1 : Shown) (c : Option (List ℕ)) where
  pub ended_round : Reads b s0 next.End b' s1 → IsRound mean last b s0 c service (round.Over end.Ended) b' s1 c service
  ended_round reads = record {
    stays = record { takes = reads.stays.takes; puts = reads.stays.puts; place = reads.stays.place };
    cause = tt;
    calm = ((λ other. reads.calm (λ e. absurd cc)), λ other. reads.written.calm);
    becomes = becomes;
    told = λ first p left is_last at. record {
      final = final end.Ended p (interim reads.due);
      finishes = input_ended reads.due (rw at.bytes at reads.answers);
      end = refl;
      given = given_line first s0.given s1.given p.given (interim reads.due) at.given reads.written.given;
      serves = sym at.serves;
      coming = at.coming;
      left = tt;
    };
  }

  pub cut_round : Reads b s0 next.Cut b' s1 → IsRound mean last b s0 c service (round.Over end.Cut) b' s1 c service
  cut_round reads = record {
    stays = record { takes = reads.stays.takes; puts = reads.stays.puts; place = reads.stays.place };
    cause = tt;
    calm = ((λ other. reads.calm (λ e. absurd cc)), λ other. reads.written.calm);
    becomes = becomes;
    told = λ first p left is_last at. record {
      final = final end.Cut p (interim reads.due);
      finishes = input_cut reads.due (rw at.bytes at reads.answers);
      end = refl;
      given = given_line first s0.given s1.given p.given (interim reads.due) at.given reads.written.given;
      serves = sym at.serves;
      coming = at.coming;
      left = tt;
    };
  }

  pub read_failed_round : Reads b s0 next.ReadFault b' s1 → IsRound mean last b s0 c service (round.Over end.ReadFault) b' s1 c service
  read_failed_round reads = record {
    stays = record { takes = reads.stays.takes; puts = reads.stays.puts; place = reads.stays.place };
    cause = reads.written.1;
    calm = ((λ other. absurd (other refl)), λ other. reads.written.0.calm);
    becomes = becomes;
    told = λ first p left is_last at.
        let behind = parted p.bytes _ s1 reads.breaks.0 at.bytes in
        record {
          final = final_at end.ReadFault p (interim reads.due) behind.rest;
          finishes = read_failed reads.breaks.0.taken behind.rest reads.due behind.parts reads.breaks.1;
          end = refl;
          given = given_line first s0.given s1.given p.given (interim reads.due) at.given reads.written.0.given;
          serves = sym at.serves;
          coming = at.coming;
          left = behind.is;
        };
  }

  pub line_failed_round : Reads b s0 next.WriteFault b' s1 → IsRound mean last b s0 c service (round.Over end.WriteFault) b' s1 c service
  line_failed_round reads = let gave = reads.written.1 in record {
    stays = record { takes = reads.stays.takes; puts = reads.stays.puts; place = reads.stays.place };
    cause = gave.cause;
    calm = ((λ other. reads.calm (λ e. absurd cc)), λ other. absurd (other refl));
    becomes = becomes;
    told = λ first p left is_last at.
        let behind = parted p.bytes _ s1 reads.breaks.0 at.bytes in
        record {
          final = final_at end.WriteFault p gave.front behind.rest;
          finishes = line_failed reads.breaks.0.taken behind.rest gave.front behind.parts reads.breaks.1 (record { rest = gave.rest; parts = gave.parts });
          end = refl;
          given = given_line first s0.given s1.given p.given gave.front at.given gave.given;
          serves = sym at.serves;
          coming = at.coming;
          left = behind.is;
        };
  }

  module _ (e : Ending) (row : ℕ) (is_row : row_of e ≡ Some row) (due : Bool) (is_next : IfSome (ahead b s0) (λ bytes. IsNext bytes (ended e due))) (written : GaveAll s0 (interim due) s1) (takes : s0.failed_takes ≤ s1.failed_takes) (puts : s0.failed_puts ≤ s1.failed_puts) (place : s1.place ≡ s0.place) (calm : IsCalm s0 s1) where
    pub refused_round : (r : Round) (s2 : Shown) → IsRefused row s1 r s2 → IsRound mean last b s0 c service r b' s2 c service
    refused_round (round.Over end.Unframed) s2 g = record {
      stays = stays_on s0 s1 s2 takes puts place g.keeps;
      cause = tt;
      calm = ((λ other. g.keeps.takes ∙ calm), λ other. g.calm ∙ written.calm);
      becomes = becomes;
      told = λ first p left is_last at. record {
        final = final end.Unframed p (interim due ++ fixed_text row true);
        finishes = refused e due row (rw at.bytes at is_next) is_row;
        end = refl;
        given = given_behind first s0.given s1.given s2.given p.given (interim due) (fixed_text row true) at.given written.given g.given;
        serves = sym at.serves;
        coming = at.coming;
        left = tt;
      };
    }
    refused_round (round.Over end.WriteFault) s2 g = record {
      stays = stays_on s0 s1 s2 takes puts place g.keeps;
      cause = omega (arith, puts, g.cause);
      calm = ((λ other. g.keeps.takes ∙ calm), λ other. absurd (other refl));
      becomes = becomes;
      told = λ first p left is_last at. record {
        final = final end.WriteFault p (interim due ++ g.front);
        finishes = refusal_failed e due row g.front (rw at.bytes at is_next) is_row (record { rest = g.rest; parts = g.parts });
        end = refl;
        given = given_behind first s0.given s1.given s2.given p.given (interim due) g.front at.given written.given g.given;
        serves = sym at.serves;
        coming = at.coming;
        left = tt;
      };
    }
    refused_round (round.Over end.Ended) s2 g = absurd g
    refused_round (round.Over end.Closed) s2 g = absurd g
    refused_round (round.Over end.Cut) s2 g = absurd g
    refused_round (round.Over end.ReadFault) s2 g = absurd g
    refused_round (round.Over end.NoMemory) s2 g = absurd g
    refused_round round.On s2 g = absurd g

  module _ (reads : Reads b s0 next.OutOfMemory b' s1) where
    pub gave_up_round : (r : Round) (s2 : Shown) → IsGivenUp s1 r s2 → IsRound mean last b s0 c service r b' s2 c service
    gave_up_round (round.Over end.NoMemory) s2 g = record {
      stays = stays_on s0 s1 s2 reads.stays.takes reads.stays.puts reads.stays.place g.keeps;
      cause = tt;
      calm = ((λ other. g.keeps.takes ∙ reads.calm (λ e. absurd cc)), λ other. g.calm ∙ reads.written.calm);
      becomes = becomes;
      told = λ first p left is_last at.
          let behind = parted p.bytes _ s1 reads.breaks.0 at.bytes in
          record {
            final = final_at end.NoMemory p (interim reads.due ++ fixed_text 27 true) behind.rest;
            finishes = no_memory reads.breaks.0.taken behind.rest reads.due behind.parts reads.breaks.1;
            end = refl;
            given = given_behind first s0.given s1.given s2.given p.given (interim reads.due) (fixed_text 27 true) at.given reads.written.given g.given;
            serves = sym at.serves;
            coming = at.coming;
            left = g.keeps.left ∙ behind.is;
          };
    }
    gave_up_round (round.Over end.WriteFault) s2 g = record {
      stays = stays_on s0 s1 s2 reads.stays.takes reads.stays.puts reads.stays.place g.keeps;
      cause = omega (arith, reads.stays.puts, g.cause);
      calm = ((λ other. g.keeps.takes ∙ reads.calm (λ e. absurd cc)), λ other. absurd (other refl));
      becomes = becomes;
      told = λ first p left is_last at.
          let behind = parted p.bytes _ s1 reads.breaks.0 at.bytes in
          record {
            final = final_at end.WriteFault p (interim reads.due ++ g.front) behind.rest;
            finishes = memory_failed reads.breaks.0.taken behind.rest reads.due g.front behind.parts reads.breaks.1 (record { rest = g.rest; parts = g.parts });
            end = refl;
            given = given_behind first s0.given s1.given s2.given p.given (interim reads.due) g.front at.given reads.written.given g.given;
            serves = sym at.serves;
            coming = at.coming;
            left = g.keeps.left ∙ behind.is;
          };
    }
    gave_up_round (round.Over end.Ended) s2 g = absurd g
    gave_up_round (round.Over end.Closed) s2 g = absurd g
    gave_up_round (round.Over end.Unframed) s2 g = absurd g
    gave_up_round (round.Over end.Cut) s2 g = absurd g
    gave_up_round (round.Over end.ReadFault) s2 g = absurd g
    gave_up_round round.On s2 g = absurd g
