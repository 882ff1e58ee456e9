use Rattle.std.proofs.Common.{◌≡◌, ◌∙◌, Some, Err, ap, arith, refl, sym, subst}
use Rattle.std.specs.Prelude.{nat_eq}
use Rattle.std.specs.HashMap.{get}
use Rattle.draid_block.specs.Blocks.{IsContent}
use Rattle.draid_names.specs.declared.pointer.Pointer.{Pointer}
use Rattle.draid_pool.proofs.Wholes.{put_here}
use Rattle.draid_store.specs.declared.fault.StoreFault.{StoreFault}
use Rattle.draid_store.specs.Storing.{IsNewPointer}
use Rattle.draid_store.proofs.Pointed.{content_fits}
use Rattle.draid_store.proofs.StoreWhole.{comes_back, may_start, missed_whole, stored_whole}
use Rattle.draid_store.proofs.Storing.{begun_whole, missed_says, none_whole, ok_says, refused_by, refused_says, refused_whole, same_earlier, started, stay_three, stores_new, unbegun}
use Rattle.draid_store.proofs.store.store_block.Goals as goal

pub begin_write-requires-clause-may : goal.begin_write-requires-clause-may
begin_write-requires-clause-may g c =
    may_start g.R.Rack (g.M.Metaslabs.owns c.args.metaslabs.now) (g.M.Metaslabs.last c.args.metaslabs.now) c.args.metaslab c.args.columns c.args.object c.args.own.now.seq c.args.own.now.floor c.args.block.now (λ o. get nat_eq c.args.own.now.objects o)
    c.requires.own c.requires.object c.requires.last c.requires.takes c.requires.whole

-- ---- no write was begun

pub returns-in-Some-Err : goal.returns-in-Some-Err
returns-in-Some-Err g c =
    let e = c.begin_write.ensures in
    let out_is : c.begin_write.result ≡ Some (Err c.in-Some-Err.why) = c.in-Some-Err.is ∙ ap Some c.in-Some-Err.field-0-is in
    record {
      fits = e.fits;
      locks = e.locks;
      owns = e.owns;
      stay = e.stay;
      whole = refused_whole g.R.Rack (g.M.Metaslabs.owns c.args.metaslabs.now) (g.M.Metaslabs.last c.begin_write.new.metaslabs) (λ o. get nat_eq c.args.own.now.objects o) c.args.own.now.seq c.args.own.now.floor c.args.metaslab c.begin_write.result c.in-Some-Err.why out_is (e.whole (λ o. get nat_eq c.args.own.now.objects o) c.requires.whole);
      sets = λ other. refl;
      earlier = λ p is. absurd (cc);
      new = tt;
      later = omega arith;
      says = refused_says g.R.Rack g.A.Area g.M.Metaslabs.went g.M.Metaslabs.shared (g.M.Metaslabs.owns c.args.metaslabs.now) (g.M.Metaslabs.owns c.begin_write.new.metaslabs) (g.M.Metaslabs.last c.args.metaslabs.now) (g.M.Metaslabs.last c.begin_write.new.metaslabs)
          c.args.metaslabs.now c.begin_write.new.metaslabs c.args.metaslab c.args.columns c.args.object (λ o. get nat_eq c.args.own.now.objects o) c.args.own.now.seq c.args.own.now.floor c.args.block.now c.begin_write.result c.in-Some-Err.why out_is e.says;
      refused = refused_by g.R.Rack g.A.Area g.M.Metaslabs.went g.M.Metaslabs.shared (g.M.Metaslabs.owns c.args.metaslabs.now) (g.M.Metaslabs.owns c.begin_write.new.metaslabs) (g.M.Metaslabs.last c.args.metaslabs.now) (g.M.Metaslabs.last c.begin_write.new.metaslabs)
          c.args.metaslabs.now c.begin_write.new.metaslabs c.args.metaslab c.args.columns c.args.object (λ o. get nat_eq c.args.own.now.objects o) c.args.own.now.seq c.args.own.now.floor c.args.block.now c.begin_write.result c.in-Some-Err.why out_is e.refused;
      served = λ own none. absurd (cc);
    }

pub returns-in-None : goal.returns-in-None
returns-in-None g c =
    let e = c.begin_write.ensures in
    record {
      fits = e.fits;
      locks = e.locks;
      owns = e.owns;
      stay = e.stay;
      whole = none_whole g.R.Rack (g.M.Metaslabs.owns c.args.metaslabs.now) (g.M.Metaslabs.last c.begin_write.new.metaslabs) (λ o. get nat_eq c.args.own.now.objects o) c.args.own.now.seq c.args.own.now.floor c.args.metaslab c.begin_write.result c.in-None.is (e.whole (λ o. get nat_eq c.args.own.now.objects o) c.requires.whole);
      sets = λ other. refl;
      earlier = λ p is. absurd (cc);
      new = tt;
      later = omega arith;
      says = unbegun g.R.Rack g.A.Area g.M.Metaslabs.went g.M.Metaslabs.shared (g.M.Metaslabs.owns c.args.metaslabs.now) (g.M.Metaslabs.owns c.begin_write.new.metaslabs) (g.M.Metaslabs.last c.args.metaslabs.now) (g.M.Metaslabs.last c.begin_write.new.metaslabs)
          c.args.metaslabs.now c.begin_write.new.metaslabs c.args.metaslab c.args.columns c.args.object (λ o. get nat_eq c.args.own.now.objects o) c.args.own.now.seq c.args.own.now.floor c.args.block.now c.begin_write.result c.in-None.is e.says;
      refused = tt;
      served = λ own none. e.served own c.in-None.is;
    }

-- ---- the block is live

pub returns-in-Ok-insert : goal.returns-in-Ok-insert
returns-in-Ok-insert g c =
    let starts = started g.R.Rack g.A.Area g.M.Metaslabs.went g.M.Metaslabs.shared (g.M.Metaslabs.owns c.args.metaslabs.now) (g.M.Metaslabs.owns c.begin_write.new.metaslabs) (g.M.Metaslabs.last c.args.metaslabs.now) (g.M.Metaslabs.last c.begin_write.new.metaslabs) c.args.metaslabs.now c.begin_write.new.metaslabs c.args.metaslab c.args.columns c.args.object c.args.own.now.seq c.args.own.now.floor c.args.block.now
    c.in-Some-Ok.field-0 c.in-Some-Ok.ticket c.in-Some-Ok.field-0-is c.in-Some-Ok.ensures.says in
    let pointer = c.in-Ok.pointer in
    let named : pointer ≡ c.put_all-ticket.result.pointer = c.in-Ok.ensures.pointer in
    record {
      fits = c.end_write-result.ensures.fits;
      locks = c.end_write-result.ensures.locks ∙ (c.put_all-ticket.ensures.locks ∙ c.begin_write.ensures.locks);
      owns = c.end_write-result.ensures.owns ∙ (c.put_all-ticket.ensures.owns ∙ c.begin_write.ensures.owns);
      stay = stay_three (g.M.Metaslabs.owns c.args.metaslabs.now) (g.M.Metaslabs.owns c.begin_write.new.metaslabs) (g.M.Metaslabs.owns c.put_all-ticket.new.metaslabs) c.begin_write.ensures.owns c.put_all-ticket.ensures.owns (g.M.Metaslabs.last c.args.metaslabs.now) (g.M.Metaslabs.last c.begin_write.new.metaslabs) (g.M.Metaslabs.last c.put_all-ticket.new.metaslabs) (g.M.Metaslabs.last c.end_write-result.new.metaslabs) c.begin_write.ensures.stay c.put_all-ticket.ensures.stay c.end_write-result.ensures.stay;
      whole = stored_whole g.R.Rack (g.M.Metaslabs.owns c.args.metaslabs.now) (g.M.Metaslabs.owns c.begin_write.new.metaslabs) (g.M.Metaslabs.owns c.put_all-ticket.new.metaslabs) c.begin_write.ensures.owns c.put_all-ticket.ensures.owns (g.M.Metaslabs.last c.args.metaslabs.now) (g.M.Metaslabs.last c.begin_write.new.metaslabs) (g.M.Metaslabs.last c.put_all-ticket.new.metaslabs) (g.M.Metaslabs.last c.end_write-result.new.metaslabs) c.args.metaslab c.args.object c.in-Some-Ok.ticket c.put_all-ticket.result
          c.put_all-ticket.ensures.pointer (λ o. get nat_eq c.args.own.now.objects o) c.args.own.now.seq c.args.own.now.floor starts.object_is starts.seq_is starts.at c.requires.whole
          (begun_whole g.R.Rack (g.M.Metaslabs.owns c.args.metaslabs.now) (g.M.Metaslabs.last c.begin_write.new.metaslabs) (λ o. get nat_eq c.args.own.now.objects o) c.args.own.now.seq c.args.own.now.floor c.args.metaslab c.begin_write.result c.in-Some-Ok.ticket (c.in-Some-Ok.is ∙ ap Some c.in-Some-Ok.field-0-is) (c.begin_write.ensures.whole (λ o. get nat_eq c.args.own.now.objects o) c.requires.whole))
          c.put_all-ticket.ensures.whole c.end_write-result.result c.end_write-result.ensures.whole pointer c.in-Ok.is named (λ o. get nat_eq c.insert.new.self o) (λ q. c.in-Ok-insert.ensures.updates.0 q);
      sets = (
        pointer,
        content_fits pointer c.args.block.now.bytes (subst (λ (p : Pointer). IsContent p c.args.block.now.bytes) (sym (named ∙ c.put_all-ticket.ensures.pointer)) starts.carries.carries.content),
        λ other. c.in-Ok-insert.ensures.updates.0 other,
      );
      earlier = λ p is. comes_back g.R.Rack (g.M.Metaslabs.owns c.args.metaslabs.now) (g.M.Metaslabs.owns c.begin_write.new.metaslabs) (g.M.Metaslabs.owns c.put_all-ticket.new.metaslabs) c.begin_write.ensures.owns c.put_all-ticket.ensures.owns (g.M.Metaslabs.last c.args.metaslabs.now) (g.M.Metaslabs.last c.begin_write.new.metaslabs) (g.M.Metaslabs.last c.put_all-ticket.new.metaslabs) (g.M.Metaslabs.last c.end_write-result.new.metaslabs) c.args.metaslab c.args.object c.in-Some-Ok.ticket c.put_all-ticket.result
          c.put_all-ticket.ensures.pointer (λ o. get nat_eq c.args.own.now.objects o) c.args.own.now.seq c.args.own.now.floor starts.object_is starts.seq_is starts.at c.requires.whole
          (begun_whole g.R.Rack (g.M.Metaslabs.owns c.args.metaslabs.now) (g.M.Metaslabs.last c.begin_write.new.metaslabs) (λ o. get nat_eq c.args.own.now.objects o) c.args.own.now.seq c.args.own.now.floor c.args.metaslab c.begin_write.result c.in-Some-Ok.ticket (c.in-Some-Ok.is ∙ ap Some c.in-Some-Ok.field-0-is) (c.begin_write.ensures.whole (λ o. get nat_eq c.args.own.now.objects o) c.requires.whole))
          c.put_all-ticket.ensures.whole c.end_write-result.result c.end_write-result.ensures.whole pointer c.in-Ok.is named (λ o. get nat_eq c.insert.new.self o) (λ q. c.in-Ok-insert.ensures.updates.0 q) p (sym c.in-Ok-insert.ensures.old ∙ same_earlier c.in-Ok-insert.earlier p is);
      new = stores_new StoreFault (g.M.Metaslabs.last c.args.metaslabs.now) c.args.object c.args.own.now.seq (λ o. get nat_eq c.args.own.now.objects o) (λ o. get nat_eq c.insert.new.self o) c.in-Ok-insert.earlier pointer c.in-Ok-insert.ensures.old
          (put_here (get nat_eq c.insert.new.self c.args.object) (get nat_eq c.args.own.now.objects c.args.object) c.args.object c.args.object (Some pointer) (c.in-Ok-insert.ensures.updates.0 c.args.object) refl)
          (subst (IsNewPointer (g.M.Metaslabs.last c.args.metaslabs.now) c.args.own.now.seq) (sym (named ∙ c.put_all-ticket.ensures.pointer)) (record {
            seq_is = starts.seq_is;
            shard = c.requires.takes.shard;
            there = ap (g.M.Metaslabs.last c.args.metaslabs.now) starts.at ∙ c.requires.takes.there;
            late = starts.late c.requires.takes.shard c.requires.takes.there;
          }));
      later = omega arith;
      says = ok_says g.R.Rack g.A.Area g.M.Metaslabs.went g.M.Metaslabs.shared (g.M.Metaslabs.owns c.args.metaslabs.now) (g.M.Metaslabs.owns c.begin_write.new.metaslabs) (g.M.Metaslabs.owns c.put_all-ticket.new.metaslabs) (g.M.Metaslabs.owns c.end_write-result.new.metaslabs)
          c.begin_write.ensures.owns c.put_all-ticket.ensures.owns c.end_write-result.ensures.owns (g.M.Metaslabs.last c.args.metaslabs.now) (g.M.Metaslabs.last c.begin_write.new.metaslabs) (g.M.Metaslabs.last c.put_all-ticket.new.metaslabs) (g.M.Metaslabs.last c.end_write-result.new.metaslabs) c.args.metaslabs.now c.begin_write.new.metaslabs c.put_all-ticket.new.metaslabs c.end_write-result.new.metaslabs c.args.metaslab c.args.columns c.args.object
          (λ o. get nat_eq c.args.own.now.objects o) c.args.own.now.seq c.args.own.now.floor c.args.block.now c.in-Some-Ok.ticket c.put_all-ticket.result c.put_all-ticket.ensures.pointer c.put_all-ticket.ensures.all (started g.R.Rack g.A.Area g.M.Metaslabs.went g.M.Metaslabs.shared (g.M.Metaslabs.owns c.args.metaslabs.now) (g.M.Metaslabs.owns c.begin_write.new.metaslabs) (g.M.Metaslabs.last c.args.metaslabs.now) (g.M.Metaslabs.last c.begin_write.new.metaslabs) c.args.metaslabs.now c.begin_write.new.metaslabs c.args.metaslab c.args.columns c.args.object c.args.own.now.seq c.args.own.now.floor c.args.block.now
          c.in-Some-Ok.field-0 c.in-Some-Ok.ticket c.in-Some-Ok.field-0-is c.in-Some-Ok.ensures.says) c.put_all-ticket.ensures.step pointer c.in-Ok-insert.earlier (λ o. get nat_eq c.insert.new.self o) c.in-Ok-insert.ensures.old (λ q. c.in-Ok-insert.ensures.updates.0 q) c.in-Ok.ensures.says;
      refused = tt;
      served = λ own none. absurd (cc);
    }

-- ---- too many columns landed nowhere

pub returns-in-Err : goal.returns-in-Err
returns-in-Err g c =
    let starts = started g.R.Rack g.A.Area g.M.Metaslabs.went g.M.Metaslabs.shared (g.M.Metaslabs.owns c.args.metaslabs.now) (g.M.Metaslabs.owns c.begin_write.new.metaslabs) (g.M.Metaslabs.last c.args.metaslabs.now) (g.M.Metaslabs.last c.begin_write.new.metaslabs) c.args.metaslabs.now c.begin_write.new.metaslabs c.args.metaslab c.args.columns c.args.object c.args.own.now.seq c.args.own.now.floor c.args.block.now
    c.in-Some-Ok.field-0 c.in-Some-Ok.ticket c.in-Some-Ok.field-0-is c.in-Some-Ok.ensures.says in
    record {
      fits = c.end_write-result.ensures.fits;
      locks = c.end_write-result.ensures.locks ∙ (c.put_all-ticket.ensures.locks ∙ c.begin_write.ensures.locks);
      owns = c.end_write-result.ensures.owns ∙ (c.put_all-ticket.ensures.owns ∙ c.begin_write.ensures.owns);
      stay = stay_three (g.M.Metaslabs.owns c.args.metaslabs.now) (g.M.Metaslabs.owns c.begin_write.new.metaslabs) (g.M.Metaslabs.owns c.put_all-ticket.new.metaslabs) c.begin_write.ensures.owns c.put_all-ticket.ensures.owns (g.M.Metaslabs.last c.args.metaslabs.now) (g.M.Metaslabs.last c.begin_write.new.metaslabs) (g.M.Metaslabs.last c.put_all-ticket.new.metaslabs) (g.M.Metaslabs.last c.end_write-result.new.metaslabs) c.begin_write.ensures.stay c.put_all-ticket.ensures.stay c.end_write-result.ensures.stay;
      whole = missed_whole g.R.Rack (g.M.Metaslabs.owns c.args.metaslabs.now) (g.M.Metaslabs.owns c.begin_write.new.metaslabs) (g.M.Metaslabs.owns c.put_all-ticket.new.metaslabs) c.begin_write.ensures.owns c.put_all-ticket.ensures.owns (g.M.Metaslabs.last c.args.metaslabs.now) (g.M.Metaslabs.last c.begin_write.new.metaslabs) (g.M.Metaslabs.last c.put_all-ticket.new.metaslabs) (g.M.Metaslabs.last c.end_write-result.new.metaslabs) c.args.metaslab c.args.object c.in-Some-Ok.ticket c.put_all-ticket.result
          c.put_all-ticket.ensures.pointer (λ o. get nat_eq c.args.own.now.objects o) c.args.own.now.seq c.args.own.now.floor starts.object_is starts.seq_is starts.at c.requires.whole
          (begun_whole g.R.Rack (g.M.Metaslabs.owns c.args.metaslabs.now) (g.M.Metaslabs.last c.begin_write.new.metaslabs) (λ o. get nat_eq c.args.own.now.objects o) c.args.own.now.seq c.args.own.now.floor c.args.metaslab c.begin_write.result c.in-Some-Ok.ticket (c.in-Some-Ok.is ∙ ap Some c.in-Some-Ok.field-0-is) (c.begin_write.ensures.whole (λ o. get nat_eq c.args.own.now.objects o) c.requires.whole))
          c.put_all-ticket.ensures.whole c.end_write-result.result c.end_write-result.ensures.whole c.in-Err.missed c.in-Err.is;
      sets = λ other. refl;
      earlier = λ p is. absurd (cc);
      new = tt;
      later = omega arith;
      says = missed_says g.R.Rack g.A.Area g.M.Metaslabs.went g.M.Metaslabs.shared (g.M.Metaslabs.owns c.args.metaslabs.now) (g.M.Metaslabs.owns c.begin_write.new.metaslabs) (g.M.Metaslabs.owns c.put_all-ticket.new.metaslabs) (g.M.Metaslabs.owns c.end_write-result.new.metaslabs)
          c.begin_write.ensures.owns c.put_all-ticket.ensures.owns c.end_write-result.ensures.owns (g.M.Metaslabs.last c.args.metaslabs.now) (g.M.Metaslabs.last c.begin_write.new.metaslabs) (g.M.Metaslabs.last c.put_all-ticket.new.metaslabs) (g.M.Metaslabs.last c.end_write-result.new.metaslabs) c.args.metaslabs.now c.begin_write.new.metaslabs c.put_all-ticket.new.metaslabs c.end_write-result.new.metaslabs c.args.metaslab c.args.columns c.args.object
          (λ o. get nat_eq c.args.own.now.objects o) c.args.own.now.seq c.args.own.now.floor c.args.block.now c.in-Some-Ok.ticket c.put_all-ticket.result c.put_all-ticket.ensures.pointer c.put_all-ticket.ensures.all (started g.R.Rack g.A.Area g.M.Metaslabs.went g.M.Metaslabs.shared (g.M.Metaslabs.owns c.args.metaslabs.now) (g.M.Metaslabs.owns c.begin_write.new.metaslabs) (g.M.Metaslabs.last c.args.metaslabs.now) (g.M.Metaslabs.last c.begin_write.new.metaslabs) c.args.metaslabs.now c.begin_write.new.metaslabs c.args.metaslab c.args.columns c.args.object c.args.own.now.seq c.args.own.now.floor c.args.block.now
          c.in-Some-Ok.field-0 c.in-Some-Ok.ticket c.in-Some-Ok.field-0-is c.in-Some-Ok.ensures.says) c.put_all-ticket.ensures.step c.in-Err.missed c.in-Err.ensures.says;
      refused = tt;
      served = λ own none. absurd (cc);
    }
