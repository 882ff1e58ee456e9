use Rattle.std.proofs.Common.{◌≡◌, ◌∙◌, Option, Some, None, Result, Ok, Err, ap, sym, subst}
use Rattle.draid_names.specs.declared.pointer.Pointer.{Pointer}
use Rattle.std.specs.Prelude.{nat_eq}
use Rattle.std.specs.HashMap.{get}
use Rattle.draid_pool.specs.Drifts.{groups_number}
use Rattle.draid_pool.specs.Threads.{AllStay, HasPointer, IsWholeBy}
use Rattle.draid_store.specs.Freeing.{EarlierWhole}
use Rattle.draid_store.specs.Storing.{ComesBack, StoreRefusedBy, StoreSays, StoreSetsTable, StoresNew}
use Rattle.draid_pool.proofs.HeldBy.{stay_then}
use Rattle.draid_store.specs.declared.fault.StoreFault.{StoreFault}
use Rattle.draid_store.proofs.Storing.{new_alone}
use Rattle.draid_store.proofs.WholeBlock.{answered, earlier_awaits, earlier_freed, earlier_kept, same_err, same_first, same_none}
use Rattle.draid_store.proofs.writing.write_block.Goals as goal

same_back : {E : Type 0} (p q : Pointer) → ◌≡◌ {A = Option (Result (Option Pointer) E)} (Some (Ok (Some p))) (Some (Ok (Some q))) → p ≡ q
same_back p q is = cc

pub returns-in-Some-Ok-None : goal.returns-in-Some-Ok-None
returns-in-Some-Ok-None g c =
    let e = c.store_block.ensures in
    let none : c.store_block.result ≡ Some (Ok None) = answered c.store_block.result c.in-Some-Ok-None.field-0 c.in-Some-Ok-None.field-0-0 None c.in-Some-Ok-None.is c.in-Some-Ok-None.field-0-is c.in-Some-Ok-None.field-0-0-is in
    record {
      fits = e.fits;
      locks = e.locks;
      owns = e.owns;
      stay = e.stay;
      whole = e.whole;
      sets = subst (StoreSetsTable c.args.object c.args.block.now.bytes (λ o. get nat_eq c.args.own.now.objects o) (λ o. get nat_eq c.store_block.new.own.objects o)) none e.sets;
      earlier = λ q is. absurd (cc);
      new = subst (StoresNew (g.M.Metaslabs.last c.args.metaslabs.now) c.args.object c.args.own.now.seq (λ o. get nat_eq c.args.own.now.objects o) (λ o. get nat_eq c.store_block.new.own.objects o)) none e.new;
      later = e.later;
      says = same_first g.R.Rack g.A.Area g.M.Metaslabs.went g.M.Metaslabs.shared (g.M.Metaslabs.owns c.args.metaslabs.now) (g.M.Metaslabs.owns c.store_block.new.metaslabs) (g.M.Metaslabs.last c.args.metaslabs.now) (g.M.Metaslabs.last c.store_block.new.metaslabs) c.args.metaslabs.now c.store_block.new.metaslabs c.args.metaslab c.args.columns c.args.point c.args.object
          (λ o. get nat_eq c.args.own.now.objects o) (λ o. get nat_eq c.store_block.new.own.objects o) c.args.own.now.seq c.args.own.now.floor c.store_block.new.own.seq c.store_block.new.own.floor c.args.block.now c.store_block.result none e.says;
      refused = tt;
      served = λ own. tt;
    }

pub returns-in-Some-Err : goal.returns-in-Some-Err
returns-in-Some-Err g c =
    let e = c.store_block.ensures in
    let fault : c.store_block.result ≡ Some (Err c.in-Some-Err.why) = c.in-Some-Err.is ∙ ap Some c.in-Some-Err.field-0-is in
    record {
      fits = e.fits;
      locks = e.locks;
      owns = e.owns;
      stay = e.stay;
      whole = e.whole;
      sets = subst (StoreSetsTable c.args.object c.args.block.now.bytes (λ o. get nat_eq c.args.own.now.objects o) (λ o. get nat_eq c.store_block.new.own.objects o)) fault e.sets;
      earlier = λ q is. absurd (cc);
      new = tt;
      later = e.later;
      says = same_err g.R.Rack g.A.Area g.M.Metaslabs.went g.M.Metaslabs.shared (g.M.Metaslabs.owns c.args.metaslabs.now) (g.M.Metaslabs.owns c.store_block.new.metaslabs) (g.M.Metaslabs.last c.args.metaslabs.now) (g.M.Metaslabs.last c.store_block.new.metaslabs) c.args.metaslabs.now c.store_block.new.metaslabs c.args.metaslab c.args.columns c.args.point c.args.object
          (λ o. get nat_eq c.args.own.now.objects o) (λ o. get nat_eq c.store_block.new.own.objects o) c.args.own.now.seq c.args.own.now.floor c.store_block.new.own.seq c.store_block.new.own.floor c.args.block.now c.store_block.result c.in-Some-Err.why fault e.says;
      refused = subst (StoreRefusedBy g.R.Rack g.A.Area g.M.Metaslabs.shared (g.M.Metaslabs.owns c.args.metaslabs.now) (g.M.Metaslabs.last c.args.metaslabs.now) c.args.metaslab c.args.block.now) fault e.refused;
      served = λ own. tt;
    }

pub returns-in-None : goal.returns-in-None
returns-in-None g c =
    let e = c.store_block.ensures in
    record {
      fits = e.fits;
      locks = e.locks;
      owns = e.owns;
      stay = e.stay;
      whole = e.whole;
      sets = subst (StoreSetsTable c.args.object c.args.block.now.bytes (λ o. get nat_eq c.args.own.now.objects o) (λ o. get nat_eq c.store_block.new.own.objects o)) c.in-None.is e.sets;
      earlier = λ q is. absurd (cc);
      new = tt;
      later = e.later;
      says = same_none g.R.Rack g.A.Area g.M.Metaslabs.went g.M.Metaslabs.shared (g.M.Metaslabs.owns c.args.metaslabs.now) (g.M.Metaslabs.owns c.store_block.new.metaslabs) (g.M.Metaslabs.last c.args.metaslabs.now) (g.M.Metaslabs.last c.store_block.new.metaslabs) c.args.metaslabs.now c.store_block.new.metaslabs c.args.metaslab c.args.columns c.args.point c.args.object
          (λ o. get nat_eq c.args.own.now.objects o) (λ o. get nat_eq c.store_block.new.own.objects o) c.args.own.now.seq c.args.own.now.floor c.store_block.new.own.seq c.store_block.new.own.floor c.args.block.now c.store_block.result c.in-None.is e.says;
      refused = tt;
      served = λ own. e.served own c.in-None.is;
    }

pub free_earlier-requires : goal.free_earlier-requires
free_earlier-requires g c =
    let e = c.store_block.ensures in
    let p = c.in-Some-Ok-Some.earlier in
    let some : c.store_block.result ≡ Some (Ok (Some p)) = answered c.store_block.result c.in-Some-Ok-Some.field-0 c.in-Some-Ok-Some.field-0-0 (Some p) c.in-Some-Ok-Some.is c.in-Some-Ok-Some.field-0-is c.in-Some-Ok-Some.field-0-0-is in
    let back : ComesBack g.R.Rack (g.M.Metaslabs.owns c.args.metaslabs.now) (g.M.Metaslabs.last c.store_block.new.metaslabs) (λ o. get nat_eq c.store_block.new.own.objects o) c.args.object p = e.earlier p some in
    record {
      fits = e.fits;
      has = subst (λ o. HasPointer (g.M.Metaslabs.last c.store_block.new.metaslabs) g.R.Rack o p.object p) (sym e.owns) (subst (λ n. HasPointer (g.M.Metaslabs.last c.store_block.new.metaslabs) g.R.Rack (g.M.Metaslabs.owns c.args.metaslabs.now) n p) (sym back.has.object_is) back.has);
      low = e.whole.low;
    }

pub returns-then-keeps : goal.returns-then-keeps
returns-then-keeps g c =
    let e = c.store_block.ensures in
    let p = c.in-Some-Ok-Some.earlier in
    let some : c.store_block.result ≡ Some (Ok (Some p)) = answered c.store_block.result c.in-Some-Ok-Some.field-0 c.in-Some-Ok-Some.field-0-0 (Some p) c.in-Some-Ok-Some.is c.in-Some-Ok-Some.field-0-is c.in-Some-Ok-Some.field-0-0-is in
    record {
      fits = e.fits;
      locks = e.locks;
      owns = e.owns;
      stay = e.stay;
      whole = e.whole;
      sets = subst (StoreSetsTable c.args.object c.args.block.now.bytes (λ o. get nat_eq c.args.own.now.objects o) (λ o. get nat_eq c.store_block.new.own.objects o)) some e.sets;
      earlier = λ q is. e.earlier q (some ∙ is);
      new = subst (StoresNew (g.M.Metaslabs.last c.args.metaslabs.now) c.args.object c.args.own.now.seq (λ o. get nat_eq c.args.own.now.objects o) (λ o. get nat_eq c.store_block.new.own.objects o)) some e.new;
      later = e.later;
      says = earlier_kept g.R.Rack g.A.Area g.M.Metaslabs.went g.M.Metaslabs.shared (g.M.Metaslabs.owns c.args.metaslabs.now) (g.M.Metaslabs.owns c.store_block.new.metaslabs) (g.M.Metaslabs.last c.args.metaslabs.now) (g.M.Metaslabs.last c.store_block.new.metaslabs) c.args.metaslabs.now c.store_block.new.metaslabs c.args.metaslab c.args.columns c.args.point c.args.object
          (λ o. get nat_eq c.args.own.now.objects o) (λ o. get nat_eq c.store_block.new.own.objects o) c.args.own.now.seq c.args.own.now.floor c.store_block.new.own.seq c.store_block.new.own.floor c.args.block.now p (subst (StoreSays g.R.Rack g.A.Area g.M.Metaslabs.went g.M.Metaslabs.shared (g.M.Metaslabs.owns c.args.metaslabs.now) (g.M.Metaslabs.owns c.store_block.new.metaslabs) (g.M.Metaslabs.last c.args.metaslabs.now) (g.M.Metaslabs.last c.store_block.new.metaslabs) c.args.metaslabs.now c.store_block.new.metaslabs c.args.metaslab c.args.columns c.args.object
          (λ o. get nat_eq c.args.own.now.objects o) (λ o. get nat_eq c.store_block.new.own.objects o) c.args.own.now.seq c.args.own.now.floor c.store_block.new.own.seq c.store_block.new.own.floor c.args.block.now) some e.says);
      refused = tt;
      served = λ own. sym c.keeps.ensures ∙ c.if-keeps.true;
    }

pub returns-in_default : goal.returns-in_default
returns-in_default g c =
    let e = c.store_block.ensures in
    let p = c.in-Some-Ok-Some.earlier in
    let some : c.store_block.result ≡ Some (Ok (Some p)) = answered c.store_block.result c.in-Some-Ok-Some.field-0 c.in-Some-Ok-Some.field-0-0 (Some p) c.in-Some-Ok-Some.is c.in-Some-Ok-Some.field-0-is c.in-Some-Ok-Some.field-0-0-is in
    let back : ComesBack g.R.Rack (g.M.Metaslabs.owns c.args.metaslabs.now) (g.M.Metaslabs.last c.store_block.new.metaslabs) (λ o. get nat_eq c.store_block.new.own.objects o) c.args.object p = e.earlier p some in
    let whole : IsWholeBy g.R.Rack (g.M.Metaslabs.owns c.store_block.new.metaslabs) (g.M.Metaslabs.last c.store_block.new.metaslabs) (λ o. get nat_eq c.store_block.new.own.objects o) c.store_block.new.own.seq c.store_block.new.own.floor
    = subst (λ o. IsWholeBy g.R.Rack o (g.M.Metaslabs.last c.store_block.new.metaslabs) (λ o. get nat_eq c.store_block.new.own.objects o) c.store_block.new.own.seq c.store_block.new.own.floor) (sym e.owns) e.whole in
    let f = c.free_earlier.ensures in
    record {
      fits = f.fits;
      locks = f.locks ∙ e.locks;
      owns = f.owns ∙ e.owns;
      stay = stay_then (g.M.Metaslabs.owns c.args.metaslabs.now) (g.M.Metaslabs.last c.args.metaslabs.now) (g.M.Metaslabs.last c.store_block.new.metaslabs) (g.M.Metaslabs.last c.free_earlier.new.metaslabs) e.stay (subst (λ o. AllStay o (g.M.Metaslabs.last c.store_block.new.metaslabs) (g.M.Metaslabs.last c.free_earlier.new.metaslabs)) e.owns f.stay);
      sets = subst (StoreSetsTable c.args.object c.args.block.now.bytes (λ o. get nat_eq c.args.own.now.objects o) (λ o. get nat_eq c.store_block.new.own.objects o)) some e.sets;
      whole = subst (λ o. IsWholeBy g.R.Rack o (g.M.Metaslabs.last c.free_earlier.new.metaslabs) (λ o. get nat_eq c.store_block.new.own.objects o) c.store_block.new.own.seq c.store_block.new.own.floor) e.owns
          (subst (EarlierWhole g.R.Rack (g.M.Metaslabs.owns c.store_block.new.metaslabs) (g.M.Metaslabs.last c.free_earlier.new.metaslabs) (λ o. get nat_eq c.store_block.new.own.objects o) c.store_block.new.own.seq c.store_block.new.own.floor) c.in_default.is (f.whole (λ o. get nat_eq c.store_block.new.own.objects o) c.store_block.new.own.seq whole back.apart));
      earlier = λ q is. subst (ComesBack g.R.Rack (g.M.Metaslabs.owns c.args.metaslabs.now) (g.M.Metaslabs.last c.free_earlier.new.metaslabs) (λ o. get nat_eq c.store_block.new.own.objects o) c.args.object) (same_back p q is) (record {
        has = subst (λ o. HasPointer (g.M.Metaslabs.last c.free_earlier.new.metaslabs) g.R.Rack o c.args.object p) e.owns
            (subst (λ n. HasPointer (g.M.Metaslabs.last c.free_earlier.new.metaslabs) g.R.Rack (g.M.Metaslabs.owns c.store_block.new.metaslabs) n p) back.has.object_is (f.has c.in_default.is));
        apart = back.apart;
      });
      new = subst (StoresNew (g.M.Metaslabs.last c.args.metaslabs.now) c.args.object c.args.own.now.seq (λ o. get nat_eq c.args.own.now.objects o) (λ o. get nat_eq c.store_block.new.own.objects o)) some e.new;
      later = e.later;
      says = earlier_awaits g.R.Rack g.A.Area g.M.Metaslabs.went g.M.Metaslabs.shared (g.M.Metaslabs.owns c.args.metaslabs.now) (g.M.Metaslabs.owns c.store_block.new.metaslabs) (g.M.Metaslabs.last c.args.metaslabs.now) (g.M.Metaslabs.last c.store_block.new.metaslabs) c.args.metaslabs.now c.store_block.new.metaslabs c.args.metaslab c.args.columns c.args.point c.args.object
          (λ o. get nat_eq c.args.own.now.objects o) (λ o. get nat_eq c.store_block.new.own.objects o) c.args.own.now.seq c.args.own.now.floor c.store_block.new.own.seq c.store_block.new.own.floor c.args.block.now
          (g.M.Metaslabs.owns c.free_earlier.new.metaslabs) f.owns (g.M.Metaslabs.last c.free_earlier.new.metaslabs) c.free_earlier.new.metaslabs p (subst (StoreSays g.R.Rack g.A.Area g.M.Metaslabs.went g.M.Metaslabs.shared (g.M.Metaslabs.owns c.args.metaslabs.now) (g.M.Metaslabs.owns c.store_block.new.metaslabs) (g.M.Metaslabs.last c.args.metaslabs.now) (g.M.Metaslabs.last c.store_block.new.metaslabs) c.args.metaslabs.now c.store_block.new.metaslabs c.args.metaslab c.args.columns c.args.object
          (λ o. get nat_eq c.args.own.now.objects o) (λ o. get nat_eq c.store_block.new.own.objects o) c.args.own.now.seq c.args.own.now.floor c.store_block.new.own.seq c.store_block.new.own.floor c.args.block.now) some e.says) (sym c.keeps.ensures ∙ c.if-keeps.false) c.free_earlier.result (λ t n y we loose k. f.says t n y we loose k) c.in_default.is;
      refused = tt;
      served = λ own. absurd (f.served (λ o. get nat_eq c.store_block.new.own.objects o) c.store_block.new.own.seq whole (ap (λ o. o groups_number) e.owns ∙ own) c.in_default.is);
    }

pub returns : goal.returns
returns g c =
    let e = c.store_block.ensures in
    let p = c.in-Some-Ok-Some.earlier in
    let some : c.store_block.result ≡ Some (Ok (Some p)) = answered c.store_block.result c.in-Some-Ok-Some.field-0 c.in-Some-Ok-Some.field-0-0 (Some p) c.in-Some-Ok-Some.is c.in-Some-Ok-Some.field-0-is c.in-Some-Ok-Some.field-0-0-is in
    let back : ComesBack g.R.Rack (g.M.Metaslabs.owns c.args.metaslabs.now) (g.M.Metaslabs.last c.store_block.new.metaslabs) (λ o. get nat_eq c.store_block.new.own.objects o) c.args.object p = e.earlier p some in
    let whole : IsWholeBy g.R.Rack (g.M.Metaslabs.owns c.store_block.new.metaslabs) (g.M.Metaslabs.last c.store_block.new.metaslabs) (λ o. get nat_eq c.store_block.new.own.objects o) c.store_block.new.own.seq c.store_block.new.own.floor
    = subst (λ o. IsWholeBy g.R.Rack o (g.M.Metaslabs.last c.store_block.new.metaslabs) (λ o. get nat_eq c.store_block.new.own.objects o) c.store_block.new.own.seq c.store_block.new.own.floor) (sym e.owns) e.whole in
    let f = c.free_earlier.ensures in
    record {
      fits = f.fits;
      locks = f.locks ∙ e.locks;
      owns = f.owns ∙ e.owns;
      stay = stay_then (g.M.Metaslabs.owns c.args.metaslabs.now) (g.M.Metaslabs.last c.args.metaslabs.now) (g.M.Metaslabs.last c.store_block.new.metaslabs) (g.M.Metaslabs.last c.free_earlier.new.metaslabs) e.stay (subst (λ o. AllStay o (g.M.Metaslabs.last c.store_block.new.metaslabs) (g.M.Metaslabs.last c.free_earlier.new.metaslabs)) e.owns f.stay);
      sets = subst (StoreSetsTable c.args.object c.args.block.now.bytes (λ o. get nat_eq c.args.own.now.objects o) (λ o. get nat_eq c.store_block.new.own.objects o)) some e.sets;
      whole = subst (λ o. IsWholeBy g.R.Rack o (g.M.Metaslabs.last c.free_earlier.new.metaslabs) (λ o. get nat_eq c.store_block.new.own.objects o) c.store_block.new.own.seq c.in-Some.group) e.owns
          (subst (EarlierWhole g.R.Rack (g.M.Metaslabs.owns c.store_block.new.metaslabs) (g.M.Metaslabs.last c.free_earlier.new.metaslabs) (λ o. get nat_eq c.store_block.new.own.objects o) c.store_block.new.own.seq c.store_block.new.own.floor) c.in-Some.is (f.whole (λ o. get nat_eq c.store_block.new.own.objects o) c.store_block.new.own.seq whole back.apart));
      earlier = λ q is. absurd (cc);
      new = new_alone StoreFault (g.M.Metaslabs.last c.args.metaslabs.now) c.args.object c.args.own.now.seq (λ o. get nat_eq c.args.own.now.objects o) (λ o. get nat_eq c.store_block.new.own.objects o) p (subst (StoresNew (g.M.Metaslabs.last c.args.metaslabs.now) c.args.object c.args.own.now.seq (λ o. get nat_eq c.args.own.now.objects o) (λ o. get nat_eq c.store_block.new.own.objects o)) some e.new);
      later = e.later;
      says = earlier_freed g.R.Rack g.A.Area g.M.Metaslabs.went g.M.Metaslabs.shared (g.M.Metaslabs.owns c.args.metaslabs.now) (g.M.Metaslabs.owns c.store_block.new.metaslabs) (g.M.Metaslabs.last c.args.metaslabs.now) (g.M.Metaslabs.last c.store_block.new.metaslabs) c.args.metaslabs.now c.store_block.new.metaslabs c.args.metaslab c.args.columns c.args.point c.args.object
          (λ o. get nat_eq c.args.own.now.objects o) (λ o. get nat_eq c.store_block.new.own.objects o) c.args.own.now.seq c.args.own.now.floor c.store_block.new.own.seq c.store_block.new.own.floor c.args.block.now
          (g.M.Metaslabs.owns c.free_earlier.new.metaslabs) f.owns (g.M.Metaslabs.last c.free_earlier.new.metaslabs) c.free_earlier.new.metaslabs p (subst (StoreSays g.R.Rack g.A.Area g.M.Metaslabs.went g.M.Metaslabs.shared (g.M.Metaslabs.owns c.args.metaslabs.now) (g.M.Metaslabs.owns c.store_block.new.metaslabs) (g.M.Metaslabs.last c.args.metaslabs.now) (g.M.Metaslabs.last c.store_block.new.metaslabs) c.args.metaslabs.now c.store_block.new.metaslabs c.args.metaslab c.args.columns c.args.object
          (λ o. get nat_eq c.args.own.now.objects o) (λ o. get nat_eq c.store_block.new.own.objects o) c.args.own.now.seq c.args.own.now.floor c.store_block.new.own.seq c.store_block.new.own.floor c.args.block.now) some e.says) (sym c.keeps.ensures ∙ c.if-keeps.false) c.free_earlier.result (λ t n y we loose k. f.says t n y we loose k) c.in-Some.group c.in-Some.is;
      refused = tt;
      served = λ own. tt;
    }
